-- What the iterator gives up to its end are the words that it had left, and those are all.
use Rattle.std.proofs.Common.{ap, inl, ◌∙◌, arith}
use Rattle.std.specs.Prelude.{length}
use Rattle.icu_segmenter.specs.SegmentsLeft.{words_left}
use Rattle.icu_segmenter.proofs.Callers.{count-is_left}
use Rattle.yengatomu_segmenter.proofs.buffers.count_words.Goals as goal

pub count-requires-clause-fits : goal.count-requires-clause-fits
count-requires-clause-fits g c = inl (omega (arith, c.words.ensures.few, c.requires.fits))

pub returns : goal.returns
returns g c =
    let given = c.count.ensures.ran in
    given.2 ∙ count-is_left _ words_left _ given.0 given.1 ∙ ap length c.words.ensures.words
