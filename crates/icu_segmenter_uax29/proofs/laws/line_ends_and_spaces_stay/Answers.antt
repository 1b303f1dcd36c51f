use Rattle.std.proofs.Common.{[], ◌∷◌, refl}
use Rattle.ucd_breaks.specs.declared.WordBreak.TheVariants.{Cr, Lf, WSegSpace}
use Rattle.icu_segmenter_uax29.proofs.WordSequences.{stay-together}
use Rattle.icu_segmenter_uax29.proofs.laws.line_ends_and_spaces_stay.Goals as goal

pub returns-clause-line_ends : goal.returns-clause-line_ends
returns-clause-line_ends c = stay-together (Cr ∷ []) (Lf ∷ []) refl

pub returns-clause-spaces : goal.returns-clause-spaces
returns-clause-spaces c = stay-together (WSegSpace ∷ []) (WSegSpace ∷ []) refl
