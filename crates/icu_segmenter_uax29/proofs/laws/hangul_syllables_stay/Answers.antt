use Rattle.std.proofs.Common.{[], ◌∷◌, refl}
use Rattle.ucd_breaks.specs.declared.GraphemeClusterBreak.TheVariants.{L, Lv, Lvt, T, V}
use Rattle.icu_segmenter_uax29.proofs.Sequences.{stay-together}
use Rattle.icu_segmenter_uax29.proofs.laws.hangul_syllables_stay.Goals as goal

pub returns-clause-leading : goal.returns-clause-leading
returns-clause-leading c = stay-together (L ∷ []) (L ∷ V ∷ Lv ∷ Lvt ∷ []) refl

pub returns-clause-vowels : goal.returns-clause-vowels
returns-clause-vowels c = stay-together (Lv ∷ V ∷ []) (V ∷ T ∷ []) refl

pub returns-clause-trailing : goal.returns-clause-trailing
returns-clause-trailing c = stay-together (Lvt ∷ T ∷ []) (T ∷ []) refl
