-- The paragraphs so far are given, their lines written or gathered.
use Rattle.std.proofs.Common.{length}
use Rattle.segment_output.specs.Wrapper.{wrapping_of}
use Rattle.segment_output.proofs.GivenParagraphs.{IsProgress}
use Rattle.segment_output.proofs.wrapper.Wrapper.write_paragraphs.Given as goal

abbrev pub invariant-paragraphs : goal.invariant-paragraphs
invariant-paragraphs g l =
    IsProgress (wrapping_of l.self) l.self.patterns l.text l.fn.paragraphs l.paragraphs l.gathered.items (g.O.Write.contents l.fn.out) (g.O.Write.contents l.out)

abbrev pub decreases-paragraphs : goal.decreases-paragraphs
decreases-paragraphs g l = length l.paragraphs.segments
