use Rattle.std.proofs.Common.{[], ◌∷◌, refl}
use Rattle.ucd_breaks.specs.declared.GraphemeClusterBreak.TheVariants.{Cr, Lf}
use Rattle.icu_segmenter_uax29.proofs.Sequences.{stay-together, line-end-joined}
use Rattle.icu_segmenter_uax29.proofs.laws.line_ends_stay.Goals as goal

pub returns-clause-values : goal.returns-clause-values
returns-clause-values c = stay-together (Cr ∷ []) (Lf ∷ []) refl

pub returns-clause-code_points : goal.returns-clause-code_points
returns-clause-code_points c = line-end-joined
