use Rattle.unicode_segmentation.specs.Sentence.{is_sentence_break}
use Rattle.seg_machine.specs.Pick.{machine_boundaries}
use Rattle.icu_segmenter_uax29.specs.Sentences.{sentence_machine}
use Rattle.icu_segmenter_uax29.proofs.Boundaries.{boundaries-break, breaks-bound}
use Rattle.icu_segmenter_uax29.proofs.SentencePlaces.{rule-ends, sentences-are}
use Rattle.icu_segmenter_uax29.proofs.Segments.{finds-pieces}
use Rattle.icu_segmenter_uax29.proofs.laws.sentences_are_uax29.Goals as goal

pub returns-clause-sentences : goal.returns-clause-sentences
returns-clause-sentences c = finds-pieces is_sentence_break (machine_boundaries sentence_machine) sentences-are

pub returns-clause-places : goal.returns-clause-places
returns-clause-places c before after = (
  boundaries-break is_sentence_break sentence_machine rule-ends sentences-are before after,
  breaks-bound is_sentence_break sentence_machine rule-ends sentences-are before after,
)
