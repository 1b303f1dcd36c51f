-- What the iterator gives up to its end are the segments that it had left, and those are all.
use Rattle.std.proofs.Common.{length, ◌∙◌, ap}
use Rattle.icu_segmenter.specs.SegmentsLeft.{segments_left}
use Rattle.icu_segmenter.proofs.Callers.{count-is_left}
use Rattle.callers.proofs.sentences.sentence_count.Goals as goal

pub returns : goal.returns
returns c =
    let given = c.count.ensures.ran in
    let all = rw (c.segment_utf8.ensures.source.1, c.segment_utf8.ensures.boundaries) at c.segments.ensures.segments in
    given.2 ∙ count-is_left _ segments_left _ given.0 given.1 ∙ ap length all
