use Rattle.std.proofs.Common.{[], ◌∷◌, refl}
use Rattle.ucd_breaks.specs.declared.GraphemeClusterBreak.TheVariants.{Extend, Prepend, SpacingMark, Zwj}
use Rattle.icu_segmenter_uax29.specs.Neighbours.{all_but_controls}
use Rattle.icu_segmenter_uax29.proofs.Sequences.{stay-together}
use Rattle.icu_segmenter_uax29.proofs.laws.marks_stay.Goals as goal

pub returns-clause-after : goal.returns-clause-after
returns-clause-after c = stay-together all_but_controls (Extend ∷ Zwj ∷ SpacingMark ∷ []) refl

pub returns-clause-before : goal.returns-clause-before
returns-clause-before c = stay-together (Prepend ∷ []) all_but_controls refl
