use Rattle.seg_segments.proofs.Cutting.{unmarked-next, unmarked-none}
use Rattle.seg_segments.proofs.segments.sentence_breaks.SentenceBreakIteratorBreakIterator.next_break.Goals as goal

pub returns-in_err-place : goal.returns-in_err-place
returns-in_err-place g c = rw c.from_residual.ensures (unmarked-none _ _ c.in_err-place.ensures.steps.0)

pub returns : goal.returns
returns g c = unmarked-next _ _ _ c.in_ok-place.ensures.steps.0
