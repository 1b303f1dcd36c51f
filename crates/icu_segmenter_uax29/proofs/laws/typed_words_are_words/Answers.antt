use Rattle.std.proofs.Common.{ap, sym, ◌∙◌}
use Rattle.seg_text.specs.Boundaries.{offsets}
use Rattle.unicode_segmentation.specs.Word.{is_word_break}
use Rattle.seg_machine.specs.Pick.{machine_boundaries}
use Rattle.icu_segmenter_uax29.specs.TypedWords.{typed_word_machine}
use Rattle.icu_segmenter_uax29.proofs.RuleLaws.{word-follows}
use Rattle.icu_segmenter_uax29.proofs.Segments.{finds-pieces}
use Rattle.icu_segmenter_uax29.proofs.TypedBoundaries.{bounds-are}
use Rattle.icu_segmenter_uax29.proofs.WordPlaces.{words-are}
use Rattle.icu_segmenter_uax29.proofs.laws.typed_words_are_words.Goals as goal

pub returns-clause-same : goal.returns-clause-same
returns-clause-same c code_points = bounds-are code_points ∙ sym (words-are code_points)

pub returns-clause-words : goal.returns-clause-words
returns-clause-words c = finds-pieces is_word_break (machine_boundaries typed_word_machine) bounds-are

pub returns-clause-rows : goal.returns-clause-rows
returns-clause-rows c code_points = returns-clause-same c code_points ∙ ap offsets (word-follows code_points)
