use Rattle.icu_segmenter_uax14.proofs.Tailorings.{symbols-have-properties}
use Rattle.icu_segmenter_uax14.proofs.laws.symbols_have_properties.Goals as goal

pub returns : goal.returns
returns c = symbols-have-properties
