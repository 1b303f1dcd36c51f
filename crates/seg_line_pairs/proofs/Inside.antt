-- Cuts that cover a run, without its end.
use Rattle.std.proofs.Common.{◌≡◌, ℕ, ◌<◌, ◌≤◌, nat_lt, List, [], ◌∷◌, length, refl, inl, inr, arith}
use Rattle.std.specs.Prelude.{filter}
use Rattle.std.proofs.lemmas.Bool.{cases_lt, lt-ltb, ltb-true, false_from_ne_true}
use Rattle.seg_text.specs.Boundaries.{RisesTo, Cuts, with_status}
use Rattle.seg_line_pairs.specs.LineBoundaries.{CutsCover, inside}
use Rattle.seg_line_pairs.proofs.LineStretches.{StandInside}

pub rises-le : (from : ℕ) (cuts : List ℕ) (end : ℕ) → RisesTo from (with_status 0 cuts) end → from ≤ end
rises-le from [] end rises = omega (arith, rises)
rises-le from (cut ∷ cuts) end rises = omega (arith, rises.0, rises-le cut cuts end rises.1)

-- those below the end rise to one of them
below : (from count : ℕ) (cuts : List ℕ) → from < count → RisesTo from (with_status 0 cuts) count
    → (end : ℕ) × (end < count) × RisesTo from (with_status 0 (filter (λ cut. nat_lt cut count) cuts)) end
below from count [] less rises = absurd (omega (arith, less, rises))
below from count (cut ∷ cuts) less rises =
    elim (cases_lt cut count) [
      | inl under ↦
          let later = below cut count cuts under rises.1 in
          rw (lt-ltb cut count under) (later.0, later.1, (rises.0, later.2))
      | inr least ↦
          let most = rises-le cut cuts count rises.1 in
          rw (false_from_ne_true (nat_lt cut count) (λ is. absurd (omega (arith, ltb-true cut count is, least))))
          (last cuts (omega (arith, most, least)) rises.1)
    ]
  where
    last : (cuts : List ℕ) → cut ≡ count → RisesTo cut (with_status 0 cuts) count
        → (end : ℕ) × (end < count) × RisesTo from (with_status 0 (filter (λ cut. nat_lt cut count) cuts)) end
    last [] is rises = (from, less, refl)
    last (next ∷ more) is rises = absurd (omega (arith, is, rises.0, rises-le next more count rises.1))

pub inside-stand : (cuts : Cuts) → CutsCover cuts → StandInside (inside cuts)
inside-stand cuts cover first rest = below 0 (length (first ∷ rest)) (cuts (first ∷ rest)) (omega arith) (cover (first ∷ rest))
