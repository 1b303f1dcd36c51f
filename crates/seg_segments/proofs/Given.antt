-- What iterators of boundaries give, one after another.
use Rattle.std.proofs.Common.{◌≡◌, ℕ, ◌+◌, ◌≤◌, List, [], ◌∷◌, length, map, drop, arith, refl, sym, ap, ◌∙◌}
use Rattle.std.specs.Prelude.{Option, Some, None}
use Rattle.std.specs.Iterator.{YieldsFirst}
use Rattle.std.proofs.lemmas.List.{drop-map}
use Rattle.seg_text.specs.declared.boundary.Boundary.{Boundary}
use Rattle.seg_text.specs.Boundaries.{IsCover, Remainder, RisesTo, offsets}
use Rattle.seg_text.specs.Filled.{after_given}
use Rattle.seg_segments.specs.TextSegments.{marked}
use Rattle.seg_text.proofs.Covers.{rises-le}
use Rattle.seg_text.proofs.Hints.{rising-few}

-- a cover has at most one boundary more than there are units
pub cover-few : (boundaries : List Boundary) (end : ℕ) → IsCover 0 end boundaries → length boundaries ≤ end + 1
cover-few [] end cover = absurd cover
cover-few (found ∷ boundaries) end (first, rises) = omega (arith, rising-few boundaries 0 end rises)

-- so many boundaries were written, and these are left
pub left-given : (room count : ℕ) (before after : Remainder) → after ≡ after_given room count before → after.left ≡ drop count before.left
left-given room count before after is = ap (λ (r : Remainder). r.left) is

-- places that a number may be added to
unfoldable pub AreUpTo : ℕ → List ℕ → Type 0
AreUpTo end [] = Unit {0}
AreUpTo end (place ∷ places) = (place ≤ end) × AreUpTo end places

rise-up-to : (boundaries : List Boundary) (from end : ℕ) → RisesTo from boundaries end → AreUpTo end (offsets boundaries)
unfolding AreUpTo
rise-up-to [] from end rises = tt
rise-up-to (found ∷ boundaries) from end rises = (rises-le boundaries found.offset end rises.1, rise-up-to boundaries found.offset end rises.1)

pub cover-up-to : (boundaries : List Boundary) (end : ℕ) → IsCover 0 end boundaries → AreUpTo end (drop 1 (offsets boundaries))
cover-up-to [] end cover = absurd cover
cover-up-to (found ∷ boundaries) end (first, rises) = rise-up-to boundaries 0 end rises

pub first-up-to : (end place : ℕ) (all places : List ℕ) → AreUpTo end all → all ≡ place ∷ places → (place ≤ end) × AreUpTo end places
unfolding AreUpTo
first-up-to end place [] places up is = absurd cc
first-up-to end place (other ∷ all) places up is = (rw (sym (ap (λ xs. head xs) is)) up.0, rw (sym (ap (drop 1) is)) up.1)
  where
    head : List ℕ → ℕ
    head [] = 0
    head (x ∷ xs) = x

module _ {M S : Type 0} (mark : ℕ → M) (left : S → List Boundary) where
  abbrev all : S → List (ℕ × M)
  all s = marked mark (left s)

  offsets-marked : (boundaries : List Boundary) → offsets boundaries ≡ map (λ (one : ℕ × M). one.0) (marked mark boundaries)
  offsets-marked [] = refl
  offsets-marked (found ∷ boundaries) = ap (λ places. found.offset ∷ places) (offsets-marked boundaries)

  -- so many are gone
  pub marked-given : (room count : ℕ) (before after : Remainder) → after ≡ after_given room count before → marked mark after.left ≡ drop count (marked mark before.left)
  marked-given room count before after is =
      ap (marked mark) (left-given room count before after is) ∙ sym (drop-map (λ (found : Boundary). (found.offset, mark found.status)) count before.left)

  -- the first is gone
  pub marked-behind : (s t : S) (given : Option (ℕ × M)) → YieldsFirst all s given t → all t ≡ drop 1 (all s)
  marked-behind s t None gives = gives.1 ∙ sym (ap (drop 1) gives.0)
  marked-behind s t (Some one) gives = sym (ap (drop 1) gives)

  pub offsets-behind : (s t : S) (given : Option (ℕ × M)) → YieldsFirst all s given t → offsets (left t) ≡ drop 1 (offsets (left s))
  offsets-behind s t given gives =
      offsets-marked (left t) ∙ ap (map (λ (one : ℕ × M). one.0)) (marked-behind s t given gives)
      ∙ sym (drop-map (λ (one : ℕ × M). one.0) 1 (all s)) ∙ sym (ap (drop 1) (offsets-marked (left s)))

  -- one is given
  pub offsets-next : (s t : S) (one : ℕ × M) → YieldsFirst all s (Some one) t → offsets (left s) ≡ one.0 ∷ offsets (left t)
  offsets-next s t one gives =
      offsets-marked (left s) ∙ ap (map (λ (one : ℕ × M). one.0)) gives ∙ ap (λ places. one.0 ∷ places) (sym (offsets-marked (left t)))

  -- none is left
  pub offsets-none : (s t : S) → YieldsFirst all s None t → offsets (left s) ≡ []
  offsets-none s t gives = offsets-marked (left s) ∙ ap (map (λ (one : ℕ × M). one.0)) gives.0

  -- what is said of boundaries, as numbers
  module _ (number : M → ℕ) where
    abbrev pub numbers : List Boundary → List ℕ
    numbers boundaries = map (λ (found : Boundary). number (mark found.status)) boundaries

    numbers-marked : (boundaries : List Boundary) → numbers boundaries ≡ map (λ (one : ℕ × M). number one.1) (marked mark boundaries)
    numbers-marked [] = refl
    numbers-marked (found ∷ boundaries) = ap (λ rest. number (mark found.status) ∷ rest) (numbers-marked boundaries)

    pub numbers-behind : (s t : S) (given : Option (ℕ × M)) → YieldsFirst all s given t → numbers (left t) ≡ numbers (drop 1 (left s))
    numbers-behind s t given gives =
        numbers-marked (left t) ∙ ap (map (λ (one : ℕ × M). number one.1)) (marked-behind s t given gives)
        ∙ sym (drop-map (λ (one : ℕ × M). number one.1) 1 (all s)) ∙ sym (ap (drop 1) (numbers-marked (left s)))
        ∙ drop-map (λ (found : Boundary). number (mark found.status)) 1 (left s)

    pub numbers-next : (s t : S) (one : ℕ × M) → YieldsFirst all s (Some one) t → numbers (left s) ≡ number one.1 ∷ numbers (left t)
    numbers-next s t one gives =
        numbers-marked (left s) ∙ ap (map (λ (one : ℕ × M). number one.1)) gives ∙ ap (λ rest. number one.1 ∷ rest) (sym (numbers-marked (left t)))

    pub numbers-none : (s t : S) → YieldsFirst all s None t → numbers (left s) ≡ []
    numbers-none s t gives = numbers-marked (left s) ∙ ap (map (λ (one : ℕ × M). number one.1)) gives.0
