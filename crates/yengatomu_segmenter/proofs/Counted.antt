-- Segments are one less than boundaries.
use Rattle.std.proofs.Common.{◌≡◌, ℕ, suc, ◌+◌, List, [], ◌∷◌, length, refl, ap, arith}
use Rattle.std.proofs.lemmas.List.{length-map}
use Rattle.icu_segmenter.specs.Boundary.{Boundary}
use Rattle.icu_segmenter.specs.Boundaries.{IsCover}
use Rattle.icu_segmenter.specs.TextSegments.{marked, segments_from, segments_of}

segments-at : {M : Type 0} (units : List ℕ) (from : ℕ) (breaks : List (ℕ × M)) → length (segments_from units from breaks) ≡ length breaks
unfolding segments_from
segments-at units from [] = refl
segments-at units from (to ∷ breaks) = ap suc (segments-at units to.0 breaks)

pub one-less : {M : Type 0} (mark : ℕ → M) (units : List ℕ) (boundaries : List Boundary) (end : ℕ) → IsCover 0 end boundaries
    → length (segments_of mark units boundaries) + 1 ≡ length boundaries
one-less mark units [] end cover = absurd cover
one-less {M = M} mark units (found ∷ boundaries) end cover =
    let count = segments-at units 0 (marked mark boundaries) in
    let all = length-map {B = ℕ × M} boundaries (λ (found : Boundary). (found.offset, mark found.status)) in
    omega (arith, count, all)
