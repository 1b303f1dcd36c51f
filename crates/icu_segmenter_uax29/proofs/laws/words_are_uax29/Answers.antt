use Rattle.unicode_segmentation.specs.Word.{is_word_break}
use Rattle.seg_machine.specs.Pick.{machine_boundaries}
use Rattle.icu_segmenter_uax29.specs.Words.{word_machine}
use Rattle.icu_segmenter_uax29.proofs.Boundaries.{boundaries-break, breaks-bound}
use Rattle.icu_segmenter_uax29.proofs.WordPlaces.{rule-ends, words-are}
use Rattle.icu_segmenter_uax29.proofs.Segments.{finds-pieces}
use Rattle.icu_segmenter_uax29.proofs.laws.words_are_uax29.Goals as goal

pub returns-clause-words : goal.returns-clause-words
returns-clause-words c = finds-pieces is_word_break (machine_boundaries word_machine) words-are

pub returns-clause-places : goal.returns-clause-places
returns-clause-places c before after = (
  boundaries-break is_word_break word_machine rule-ends words-are before after,
  breaks-bound is_word_break word_machine rule-ends words-are before after,
)
