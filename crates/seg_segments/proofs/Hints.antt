-- How many segments are left.
use Rattle.std.proofs.Common.{◌≡◌, ℕ, suc, ◌-◌, ◌≤◌, List, [], ◌∷◌, length, refl, ap, arith}
use Rattle.std.specs.Prelude.{Option, Some, None, IfSome, min}
use Rattle.std.specs.Iterator.{UpTo, at_most}
use Rattle.seg_segments.specs.TextSegments.{AreCuts, segments_from}
use Rattle.seg_segments.proofs.Cutting.{cuts-within}

-- each ends behind the one before it, and the last at the end
cuts-few : {M : Type 0} (MayCut : ℕ → Type 0) (from end : ℕ) (breaks : List (ℕ × M)) → AreCuts MayCut from breaks end → length breaks ≤ end - from
cuts-few MayCut from end [] cuts = omega arith
cuts-few MayCut from end (to ∷ breaks) cuts =
    omega (arith, cuts.1.0, cuts-within MayCut to.0 end breaks cuts.1.1, cuts-few MayCut to.0 end breaks cuts.1.1)

cuts-some : {M : Type 0} (MayCut : ℕ → Type 0) (from end : ℕ) (breaks : List (ℕ × M)) → AreCuts MayCut from breaks end
    → min (end - from) 1 ≤ length breaks
cuts-some MayCut from end [] cuts = omega (arith, cuts.1)
cuts-some MayCut from end (to ∷ breaks) cuts = omega arith

segments-same : {M : Type 0} (units : List ℕ) (from : ℕ) (breaks : List (ℕ × M)) → length (segments_from units from breaks) ≡ length breaks
unfolding segments_from
segments-same units from [] = refl
segments-same units from (to ∷ breaks) = ap suc (segments-same units to.0 breaks)

pub segments-few : {M : Type 0} (MayCut : ℕ → Type 0) (units : List ℕ) (from : ℕ) (breaks : List (ℕ × M)) → AreCuts MayCut from breaks (length units)
    → length (segments_from units from breaks) ≤ length units - from
segments-few MayCut units from breaks cuts = rw (segments-same units from breaks) (cuts-few MayCut from (length units) breaks cuts)

pub segments-some : {M : Type 0} (MayCut : ℕ → Type 0) (units : List ℕ) (from : ℕ) (breaks : List (ℕ × M)) → AreCuts MayCut from breaks (length units)
    → min (length units - from) 1 ≤ length (segments_from units from breaks)
segments-some MayCut units from breaks cuts = rw (segments-same units from breaks) (cuts-some MayCut from (length units) breaks cuts)

-- a bound of how many there are bounds what is no more
pub most-of-fewer : (most : Option ℕ) (count fewer : ℕ) → fewer ≤ count → IfSome most (UpTo (at_most count)) → IfSome most (UpTo (at_most fewer))
most-of-fewer None count fewer few is = tt
most-of-fewer (Some most) count fewer few is = (tt, omega (arith, few, is.1))
