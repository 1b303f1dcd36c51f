-- What is collected are the words that the iterator had left, and those are all.
use Rattle.std.proofs.Common.{◌∙◌}
use Rattle.std.proofs.lemmas.Result.{IfOk-weaker}
use Rattle.icu_segmenter.specs.SegmentsLeft.{words_left}
use Rattle.icu_segmenter.proofs.Callers.{collect-is_left}
use Rattle.callers.proofs.words.words.Goals as goal

pub returns : goal.returns
returns c =
    let all = rw (c.segment_str.ensures.source.1, c.segment_str.ensures.boundaries) at c.words.ensures.words in
    IfOk-weaker c.collect.result _ _ (λ found ran. collect-is_left _ words_left _ found.items ran.0 ran.1 ran.2.0 ∙ all) c.collect.ensures.ran
