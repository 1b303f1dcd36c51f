use Rattle.icu_segmenter_uax29.proofs.SentenceSymbols.{symbol-says}
use Rattle.icu_segmenter_uax29.proofs.laws.sentence_symbols_are_values.Goals as goal

pub returns : goal.returns
returns c = symbol-says
