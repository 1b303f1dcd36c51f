use Rattle.std.proofs.Common.{List, length}
use Rattle.seg_segments.specs.TextSegments.{nothing}
use Rattle.seg_text.specs.declared.boundary.Boundary.{Boundary}
use Rattle.seg_segments.proofs.Given.{marked-given}
use Rattle.seg_segments.proofs.segments.sentence_breaks.SentenceBreakIteratorBreakIterator.fill.Goals as goal

pub returns-clause-left : goal.returns-clause-left
returns-clause-left g c = marked-given nothing (λ (boundaries : List Boundary). boundaries) (length c.args.places.now) c.fill.result c.args.self.now.boundaries c.fill.new.self.boundaries c.fill.ensures.written.left
