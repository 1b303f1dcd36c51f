use Rattle.icu_segmenter_uax29.proofs.WordSymbols.{symbol-says}
use Rattle.icu_segmenter_uax29.proofs.laws.word_symbols_are_properties.Goals as goal

pub returns : goal.returns
returns c = symbol-says
