use Rattle.std.proofs.Common.{◌≡◌, ◌↔◌, ℕ, ◌<◌, ◌≤◌, ◌⊎◌, inl, inr, Result, Ok, Err, is_ok, Bool, true, false, ◌&&◌, nat_lt, IsTrue, Contains, List, length, get_or, refl, sym, ap, ◌∙◌, subst, arith}
use Rattle.std.proofs.lemmas.Bool.{cases_lt, false≢true, lt-ltb, ltb-true}
use Rattle.std.proofs.lemmas.List.{get_or_default}
use Rattle.std.proofs.lemmas.List.Kept.{AllPairs-from_increasing}
use Rattle.std.proofs.lemmas.List.Sorted.{searched}
use Rattle.std.specs.List.Sorted.{IsBinarySearchResult, IsStrictlyIncreasing}
use Rattle.std.specs.Ordering.{nat_cmp}
use Rattle.seg_hyphens.proofs.words.has_point.Goals as goal

rises : (points : List ℕ) → IsStrictlyIncreasing points → (i j : ℕ) → i ≤ j → j < length points → get_or points i 0 ≤ get_or points j 0
rises points up i j below inside = by (cases_lt i j) where
  by : (i < j) ⊎ (j ≤ i) → get_or points i 0 ≤ get_or points j 0
  by (inl lt) = omega (arith, AllPairs-from_increasing points up i j 0 lt inside)
  by (inr le) =
      let same : i ≡ j = omega (arith, below, le) in
      omega (arith, ap (λ k. get_or points k 0) same)

tells : (points : List ℕ) (offset : ℕ) (r : Result ℕ ℕ) → IsStrictlyIncreasing points → IsBinarySearchResult (λ y. nat_cmp y offset) points r
    → IsTrue (is_ok r) ↔ Contains points offset
tells points offset (Ok i) up is =
    let found = searched points offset (Ok i) is (rises points up) in
    (λ t. (i, found.0, get_or_default points i offset 0 found.0 ∙ found.1), λ h. refl)
tells points offset (Err i) up is = (λ t. cc, λ h. absurd (none h (cases_lt h.0 i))) where
  none : (h : Contains points offset) → (h.0 < i) ⊎ (i ≤ h.0) → ⊥
  none h (inl lt) =
      let below = (searched points offset (Err i) is (rises points up)).1 h.0 lt in
      omega (arith, below, h.2, get_or_default points h.0 offset 0 h.1)
  none h (inr le) =
      let above = (searched points offset (Err i) is (rises points up)).2 h.0 le h.1 in
      omega (arith, above, h.2, get_or_default points h.0 offset 0 h.1)

with-start : (found : Bool) (points : List ℕ) (offset : ℕ) → (IsTrue found ↔ Contains points offset)
    → IsTrue (found && nat_lt 0 offset) ↔ ((0 < offset) × Contains points offset)
with-start false points offset t = (λ h. absurd (false≢true h), λ h. t.1 h.1)
with-start true points offset t = (λ h. (ltb-true 0 offset h, t.0 refl), λ h. lt-ltb 0 offset h.0)

pub returns-clause-is : goal.returns-clause-is
returns-clause-is c = λ up.
    with-start c.is_ok-found.result c.args.points.now c.args.offset
    (subst (λ b. IsTrue b ↔ Contains c.args.points.now c.args.offset) (sym c.is_ok-found.ensures.value)
    (tells c.args.points.now c.args.offset c.binary_search.result up c.binary_search.ensures.position))
