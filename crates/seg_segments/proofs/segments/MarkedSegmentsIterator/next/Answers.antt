use Rattle.seg_lines.proofs.Progress.{fewer}
use Rattle.seg_segments.proofs.Cutting.{first-left, next-end, none-left}
use Rattle.seg_segments.proofs.segments.MarkedSegmentsIterator.next.Goals as goal

pub returns-in_err-end-clause-steps : goal.returns-in_err-end-clause-steps
returns-in_err-end-clause-steps g c = rw c.from_residual.ensures (none-left g.B.BreakIterator.mark _ _ _ _ _ c.self.view_is c.in_err-end.ensures.steps)

pub part-requires-clause-within : goal.part-requires-clause-within
part-requires-clause-within g c = (next-end _ g.B.BreakIterator.mark _ _ _ _ _ c.self.invariant c.in_ok-end.ensures.steps).within

pub part-requires-clause-to : goal.part-requires-clause-to
part-requires-clause-to g c = (next-end _ g.B.BreakIterator.mark _ _ _ _ _ c.self.invariant c.in_ok-end.ensures.steps).may

pub returns-clause-steps : goal.returns-clause-steps
returns-clause-steps g c =
    first-left g.B.BreakIterator.mark _ _ _ _ _ _ _ _ c.self.view_is c.in_ok-end.ensures.steps c.part.ensures c.mark_of.ensures

pub returns-clause-goes : goal.returns-clause-goes
returns-clause-goes g c = fewer (λ s. s) _ _ _ _ (returns-clause-steps g c)
