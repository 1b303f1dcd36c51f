use Rattle.seg_words.specs.WordRules.{type_of}
use Rattle.seg_segments.proofs.Cutting.{marked-next, marked-none}
use Rattle.seg_segments.proofs.segments.word_breaks.WordBreakIteratorBreakIterator.next_break.Goals as goal

pub returns-in_err-place : goal.returns-in_err-place
returns-in_err-place g c =
    rw c.from_residual.ensures (marked-none type_of c.args.self.now.boundaries c.next.new.self.boundaries c.in_err-place.ensures.steps.1)

pub returns : goal.returns
returns g c =
    rw c.word_type.ensures (marked-next type_of _ c.args.self.now.boundaries c.next.new.self.boundaries c.in_ok-place.ensures.steps.1)
