use Rattle.std.proofs.Common.{[], ◌∷◌, refl}
use Rattle.ucd_breaks.specs.declared.WordBreak.TheVariants.{Extend, Format, Zwj}
use Rattle.icu_segmenter_uax29.specs.Neighbours.{all_but_line_ends}
use Rattle.icu_segmenter_uax29.proofs.WordSequences.{stay-together}
use Rattle.icu_segmenter_uax29.proofs.laws.marks_stay_in_words.Goals as goal

pub returns : goal.returns
returns c = stay-together all_but_line_ends (Extend ∷ Format ∷ Zwj ∷ []) refl
