use Rattle.std.proofs.Common.{List, length}
use Rattle.seg_words.specs.WordRules.{type_of}
use Rattle.seg_text.specs.declared.boundary.Boundary.{Boundary}
use Rattle.seg_segments.proofs.Given.{marked-given}
use Rattle.seg_segments.proofs.segments.word_breaks.WordBreakIteratorBreakIterator.fill.Goals as goal

pub returns-clause-left : goal.returns-clause-left
returns-clause-left g c = marked-given type_of (λ (boundaries : List Boundary). boundaries) (length c.args.places.now) c.fill.result c.args.self.now.boundaries c.fill.new.self.boundaries c.fill.ensures.written.left
