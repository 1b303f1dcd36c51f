-- What the iterator gives up to its end are the words that it had left, and those are all.
use Rattle.std.proofs.Common.{length, ◌∙◌, ap}
use Rattle.icu_segmenter.specs.SegmentsLeft.{words_left}
use Rattle.icu_segmenter.proofs.Callers.{count-is_left}
use Rattle.callers.proofs.words.word_count.Goals as goal

pub returns : goal.returns
returns c =
    let given = c.count.ensures.ran in
    let all = rw (c.segment_str.ensures.source.1, c.segment_str.ensures.boundaries) at c.words.ensures.words in
    given.2 ∙ count-is_left _ words_left _ given.0 given.1 ∙ ap length all
