use Rattle.std.specs.Prelude.{◌==◌}
use Rattle.seg_segments.proofs.Cutting.{marked-next, marked-none}
use Rattle.seg_segments.proofs.segments.line_breaks.LineBreakIteratorBreakIterator.next_break.Goals as goal

pub returns-in_err-place : goal.returns-in_err-place
returns-in_err-place g c =
    rw c.from_residual.ensures (marked-none (λ status. status == 1) c.args.self.now.boundaries c.next.new.self.boundaries c.in_err-place.ensures.steps.1)

pub returns : goal.returns
returns g c =
    rw c.is_mandatory.ensures (marked-next (λ status. status == 1) _ c.args.self.now.boundaries c.next.new.self.boundaries c.in_ok-place.ensures.steps.1)
