-- The first of them up to the limit, or none.
use Rattle.seg_text.proofs.Cursors.{fewer-left}
use Rattle.segment_output.proofs.MarkedPlaces.{marks_up_to, next-marked, none-marked, passes-over}
use Rattle.segment_output.proofs.marks.MarkedIterator.next.Goals as goal

pub returns-then-admits-clause-steps : goal.returns-then-admits-clause-steps
returns-then-admits-clause-steps g c =
    next-marked g.B.BreakIterator.mark g.M.HasMark.said g.L.Limit.holds _ _ c.loop-end.invariant.0 _ _ _ _ c.loop-end.invariant.1 c.next.ensures.steps c.in-Some.end c.mark_of.result c.mark.result _ c.in-Some.is c.mark_of.ensures c.mark.ensures c.admits.ensures c.if-admits.true

pub returns-then-admits-clause-goes : goal.returns-then-admits-clause-goes
returns-then-admits-clause-goes g c = fewer-left (λ s. marks_up_to g.B.BreakIterator.mark g.M.HasMark.said g.L.Limit.holds s.limit s.breaks) _ _ _ (returns-then-admits-clause-steps g c)

pub loop-end-preserved : goal.loop-end-preserved
loop-end-preserved g c =
    (c.loop-end.invariant.0, passes-over g.B.BreakIterator.mark g.M.HasMark.said g.L.Limit.holds _ _ c.loop-end.invariant.0 _ _ _ _ c.loop-end.invariant.1 c.next.ensures.steps c.in-Some.end _ c.in-Some.is c.admits.ensures c.if-admits.false)

pub returns-clause-steps : goal.returns-clause-steps
returns-clause-steps g c = none-marked g.B.BreakIterator.mark g.M.HasMark.said g.L.Limit.holds _ _ c.loop-end.invariant.0 _ _ _ _ c.loop-end.invariant.1 c.next.ensures.steps c.in_default.is
