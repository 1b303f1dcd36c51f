use Rattle.std.proofs.Common.{length}
use Rattle.seg_segments.specs.TextSegments.{words_of}
use Rattle.seg_segments.proofs.Hints.{most-of-fewer}
use Rattle.seg_segments.proofs.Whole.{few-words}
use Rattle.seg_segments.proofs.segments.WordsIterator.size_hint.Goals as goal

pub returns-clause-upper : goal.returns-clause-upper
returns-clause-upper g c =
    let segments = c.args.self.now.segments in
    most-of-fewer c.size_hint.result.1 (length segments) (length (words_of segments)) (few-words segments) c.size_hint.ensures.upper
