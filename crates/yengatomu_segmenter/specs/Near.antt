-- What stands nearest a place.
use Rattle.std.specs.Prelude.{ℕ, Bool, true, false, Option, List}
use Rattle.icu_segmenter.specs.NearBoundaries.{IsNearestAbove, IsNearestBelow}

-- above it, or else below it
abbrev pub IsNearest : Bool → List ℕ → ℕ → Option ℕ → Type 0
IsNearest true places place nearest = IsNearestAbove places place nearest
IsNearest false places place nearest = IsNearestBelow places place nearest
