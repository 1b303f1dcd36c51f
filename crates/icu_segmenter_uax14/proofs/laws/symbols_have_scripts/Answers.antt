use Rattle.icu_segmenter_uax14.proofs.Tailorings.{symbols-have-scripts}
use Rattle.icu_segmenter_uax14.proofs.laws.symbols_have_scripts.Goals as goal

pub returns : goal.returns
returns c = symbols-have-scripts
