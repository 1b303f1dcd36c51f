-- Lines one after another.
use Rattle.std.proofs.Common.{◌≡◌, ℕ, ◌+◌, List, [], ◌∷◌, length, refl, ap, ◌∙◌, arith, length-append}
use Rattle.icu_segmenter.specs.Wrapping.{TextLine}
use Rattle.icu_segmenter.specs.WrappedLines.{joined_units}
use Rattle.yengatomu_segmenter.specs.Wrapped.{ends_from}

ends-cons : (from : ℕ) (line : TextLine) (lines : List TextLine) → ends_from from (line ∷ lines) ≡ (from + length line.units) ∷ ends_from (from + length line.units) lines
unfolding ends_from
ends-cons from line lines = refl

ends-nil : (from : ℕ) → ends_from from [] ≡ []
unfolding ends_from
ends-nil from = refl

-- a line is given: it ends so many units later, and the others stand behind it
pub ends-next : (from size : ℕ) (all lines : List TextLine) (line : TextLine) → all ≡ line ∷ lines → size ≡ length line.units
    → ends_from from all ≡ (from + size) ∷ ends_from (from + size) lines
ends-next from size all lines line is long = rw long (ap (ends_from from) is ∙ ends-cons from line lines)

pub units-next : (from size : ℕ) (all lines : List TextLine) (line : TextLine) → all ≡ line ∷ lines → size ≡ length line.units
    → from + length (joined_units all) ≡ (from + size) + length (joined_units lines)
units-next from size all lines line is long =
    let units : length (joined_units all) ≡ length line.units + length (joined_units lines) =
    ap (λ lines. length (joined_units lines)) is ∙ length-append line.units (joined_units lines) in
    omega (arith, units, long)

pub ends-none : (from : ℕ) (all : List TextLine) → all ≡ [] → ends_from from all ≡ []
ends-none from all is = ap (ends_from from) is ∙ ends-nil from
