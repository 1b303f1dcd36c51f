use Rattle.icu_segmenter_uax29.proofs.Properties.{symbol-says}
use Rattle.icu_segmenter_uax29.proofs.laws.symbols_are_properties.Goals as goal

pub returns : goal.returns
returns c = symbol-says
