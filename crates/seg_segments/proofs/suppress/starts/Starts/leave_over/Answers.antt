use Rattle.std.proofs.Common.{refl}
use Rattle.seg_segments.proofs.Reading.{later-next, later-start}
use Rattle.seg_segments.proofs.suppress.starts.Starts.leave_over.Goals as goal

pub loop-self-init : goal.loop-self-init
loop-self-init g c = record { words = refl; later = later-start _ _ _ _ }

pub loop-self-preserved : goal.loop-self-preserved
loop-self-preserved g c = record {
  words = c.loop-self.invariant.words;
  later = later-next _ _ _ _ _ _ _ _ _ c.loop-self.invariant.later (rw c.loop-self.invariant.words at (c.is_over.ensures c.loop-self-test.true))
      c.in-Some.ensures.gives c.in-Some.ensures.end c.is_letter_or_digit-self.ensures;
}
