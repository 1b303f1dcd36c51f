use Rattle.icu_segmenter_uax29.proofs.TypeExamples.{types}
use Rattle.icu_segmenter_uax29.proofs.laws.some_words_have_types.Goals as goal

pub returns : goal.returns
returns c = record {
  letters = types.letters;
  digits = types.digits;
  both = types.both;
  neither = types.neither;
  ideograph = types.ideograph;
}
