-- What the iterator gives last is the last of the segments that it had left, and those are all.
use Rattle.std.proofs.Common.{◌∙◌, ap, option_map}
use Rattle.std.specs.Prelude.{None}
use Rattle.std.specs.List.{last_or}
use Rattle.icu_segmenter.specs.SegmentsLeft.{segments_left}
use Rattle.icu_segmenter.proofs.Callers.{last-is_left}
use Rattle.callers.proofs.sentences.last_sentence.Goals as goal

pub returns : goal.returns
returns c =
    let given = c.last.ensures.ran in
    let all = rw (c.segment_str.ensures.source.1, c.segment_str.ensures.boundaries) at c.segments.ensures.segments in
    ap (option_map _) given.2 ∙ last-is_left _ segments_left _ given.0 given.1 ∙ ap (last_or None) all
