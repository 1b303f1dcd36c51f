use Rattle.icu_segmenter_uax29.proofs.TypedSymbols.{typed-says}
use Rattle.icu_segmenter_uax29.proofs.laws.typed_symbols_have_properties.Goals as goal

pub returns : goal.returns
returns c code_point = (typed-says code_point).typed
