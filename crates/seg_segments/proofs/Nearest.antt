-- The nearest of places that ascend.
use Rattle.std.proofs.Common.{◌≡◌, ℕ, ◌-◌, ◌<◌, ◌≤◌, ◌⊎◌, List, [], ◌∷◌, map, refl, sym, ap, subst, ◌∙◌, arith, inl, inr, Bool, true, false, eqb, eqb-true, eq-eqb}
use Rattle.std.specs.Prelude.{Option, Some, None, Contains, IfSome, IsTrue, ◌↔◌}
use Rattle.std.specs.Iterator.{YieldsFirst}
use Rattle.std.specs.List.{cons_option}
use Rattle.std.specs.Option.{option_eq}
use Rattle.std.proofs.lemmas.List.Elements.{Contains-append_left, Contains-append_right, Contains-append_cases, Contains-push, Contains-push_cases}
use Rattle.seg_text.specs.declared.boundary.Boundary.{Boundary}
use Rattle.seg_text.specs.Boundaries.{IsCover, RisesTo, offsets}
use Rattle.seg_segments.specs.TextSegments.{marked}
use Rattle.seg_segments.specs.NearBoundaries.{IsNearestAbove, IsNearestBelow}

-- ---- what lists contain

pub has-none : (x : ℕ) → Contains [] x → ⊥
has-none x (k, below, is) = omega arith

pub has-cases : (y : ℕ) (ys : List ℕ) (x : ℕ) → Contains (y ∷ ys) x → (y ≡ x) ⊎ Contains ys x
has-cases y ys x has =
    elim (Contains-append_cases (y ∷ []) ys x has) [
      | inl here ↦ elim (Contains-push_cases [] y x here) [
        | inl none ↦ absurd (has-none x none)
        | inr is ↦ inl is
      ]
      | inr later ↦ inr later
    ]

pub has-here : (x : ℕ) (xs : List ℕ) → Contains (x ∷ xs) x
has-here x xs = Contains-append_left (x ∷ []) xs x (Contains-push [] x)

pub has-later : (y : ℕ) (ys : List ℕ) (x : ℕ) → Contains ys x → Contains (y ∷ ys) x
has-later y ys x has = Contains-append_right (y ∷ []) ys x has

-- ---- places that ascend

-- each place is above the one before, the first above `from`, and the last is at most `end`
abbrev pub AscendsTo : ℕ → List ℕ → ℕ → Type 0
AscendsTo from [] end = from ≤ end
AscendsTo from (place ∷ places) end = (from < place) × AscendsTo place places end

-- places rise to an end from `from` on, if there is one
abbrev pub Ascends : Option ℕ → List ℕ → ℕ → Type 0
Ascends (Some from) places end = AscendsTo from places end
Ascends None [] end = Unit {0}
Ascends None (place ∷ places) end = AscendsTo place places end

ascends-to : (from end : ℕ) (boundaries : List Boundary) → RisesTo from boundaries end → AscendsTo from (offsets boundaries) end
ascends-to from end [] rises = omega (arith, rises)
ascends-to from end (one ∷ boundaries) rises = (rises.0, ascends-to one.offset end boundaries rises.1)

pub ascends : (from end : ℕ) (boundaries : List Boundary) → IsCover from end boundaries → Ascends None (offsets boundaries) end
ascends from end [] cover = absurd cover
ascends from end (one ∷ boundaries) cover =
    subst (λ (place : ℕ). AscendsTo place (offsets boundaries) end) (sym cover.0) (ascends-to from end boundaries cover.1)

pub ascends-within : (from end : ℕ) (places : List ℕ) → AscendsTo from places end → from ≤ end
ascends-within from end [] all = all
ascends-within from end (place ∷ places) all = omega (arith, all.0, ascends-within place end places all.1)

pub ascends-later : (from end : ℕ) (places : List ℕ) (other : ℕ) → AscendsTo from places end → Contains places other → from < other
ascends-later from end [] other all has = absurd (has-none other has)
ascends-later from end (place ∷ places) other all has =
    elim (has-cases place places other has) [
      | inl here ↦ omega (arith, here, all.0)
      | inr later ↦ omega (arith, all.0, ascends-later place end places other all.1 later)
    ]

pub ascends-next : (last : Option ℕ) (end found : ℕ) (places : List ℕ) → Ascends last (found ∷ places) end → AscendsTo found places end
ascends-next None end found places all = all
ascends-next (Some from) end found places all = all.1

-- ---- the next boundary

offsets-marked : {M : Type 0} (mark : ℕ → M) (boundaries : List Boundary) → offsets boundaries ≡ map (λ (place : ℕ × M). place.0) (marked mark boundaries)
offsets-marked mark [] = refl
offsets-marked mark (one ∷ boundaries) = ap (λ (places : List ℕ). one.offset ∷ places) (offsets-marked mark boundaries)

next-offsets : {M : Type 0} (mark : ℕ → M) (before after : List Boundary) (found : ℕ) (status : M)
    → marked mark before ≡ (found, status) ∷ marked mark after → offsets before ≡ found ∷ offsets after
next-offsets mark before after found status gives =
    offsets-marked mark before ∙ ap (λ (places : List (ℕ × _)). map (λ (place : ℕ × _). place.0) places) gives ∙ ap (λ (places : List ℕ). found ∷ places) (sym (offsets-marked mark after))

pub some-given : {S M : Type 0} (mark : ℕ → M) (left : S → List Boundary) (before after : S) (found : ℕ) (status : M)
    → YieldsFirst (λ (s : S). marked mark (left s)) before (Some (found, status)) after → offsets (left before) ≡ found ∷ offsets (left after)
some-given mark left before after found status gives = next-offsets mark (left before) (left after) found status gives

pub none-given : {S M : Type 0} (mark : ℕ → M) (left : S → List Boundary) (before after : S)
    → YieldsFirst (λ (s : S). marked mark (left s)) before None after → offsets (left before) ≡ []
none-given mark left before after gives =
    offsets-marked mark (left before) ∙ ap (λ (places : List (ℕ × _)). map (λ (place : ℕ × _). place.0) places) gives.0

-- ---- the nearest above

pub above-later : (places : List ℕ) (first place : ℕ) (nearest : Option ℕ) → first ≤ place → IsNearestAbove places place nearest
    → IsNearestAbove (first ∷ places) place nearest
above-later places first place None order is = λ other has.
    elim (has-cases first places other has) [
      | inl here ↦ omega (arith, here, order)
      | inr later ↦ is other later
    ]
above-later places first place (Some found) order is = (
  has-later first places found is.0,
  is.1,
  λ other has above.
      elim (has-cases first places other has) [
        | inl here ↦ absurd (omega (arith, here, order, above))
        | inr later ↦ is.2 other later above
      ],
)

pub above-here : (places : List ℕ) (found place end : ℕ) → place < found → AscendsTo found places end
    → IsNearestAbove (found ∷ places) place (Some found)
above-here places found place end order later = (
  has-here found places,
  order,
  λ other has above.
      elim (has-cases found places other has) [
        | inl here ↦ omega (arith, here)
        | inr behind ↦ omega (arith, ascends-later found end places other later behind)
      ],
)

pub above-none : (place : ℕ) → IsNearestAbove [] place None
above-none place = λ other has. absurd (has-none other has)

-- ---- the nearest below

pub below-next : (last : Option ℕ) (found place end : ℕ) (places : List ℕ) (nearest : Option ℕ) → Ascends last (found ∷ places) end → found < place
    → IsNearestBelow (found ∷ places) place nearest → IsNearestBelow (cons_option last (found ∷ places)) place nearest
below-next None found place end places nearest all order is = is
below-next (Some from) found place end places None all order is = absurd (omega (arith, order, is found (has-here found places)))
below-next (Some from) found place end places (Some nearest) all order is = (
  has-later from (found ∷ places) nearest is.0,
  is.1,
  λ other has below.
      elim (has-cases from (found ∷ places) other has) [
        | inl here ↦ omega (arith, here, all.0, is.2 found (has-here found places) order)
        | inr later ↦ is.2 other later below
      ],
)

pub below-stop : (last : Option ℕ) (place : ℕ) (places : List ℕ) → ((other : ℕ) → Contains places other → place ≤ other) → IfSome last (λ from. from < place)
    → IsNearestBelow (cons_option last places) place last
below-stop None place places above order = above
below-stop (Some from) place places above order = (
  has-here from places,
  order,
  λ other has below.
      elim (has-cases from places other has) [
        | inl here ↦ omega (arith, here)
        | inr later ↦ absurd (omega (arith, below, above other later))
      ],
)

-- where the next one isn't below, none of the others is
pub all-above : (last : Option ℕ) (found place end : ℕ) (places : List ℕ) → Ascends last (found ∷ places) end → place ≤ found
    → (other : ℕ) → Contains (found ∷ places) other → place ≤ other
all-above last found place end places all order other has =
    elim (has-cases found places other has) [
      | inl here ↦ omega (arith, here, order)
      | inr later ↦ omega (arith, order, ascends-later found end places other (ascends-next last end found places all) later)
    ]

pub last-within : (last : Option ℕ) (end : ℕ) (places : List ℕ) → Ascends last places end → IfSome last (λ from. from ≤ end)
last-within None end places all = tt
last-within (Some from) end places all = ascends-within from end places all

-- ---- what a step of the iterator says

pub above-found : {S M : Type 0} (mark : ℕ → M) (left : S → List Boundary) (before after : S) (found : ℕ) (status : M) (place end : ℕ)
    → YieldsFirst (λ (s : S). marked mark (left s)) before (Some (found, status)) after → Ascends None (offsets (left before)) end → place < found
    → IsNearestAbove (offsets (left before)) place (Some found) × (found ≤ end)
above-found mark left before after found status place end gives all order =
    let at : offsets (left before) ≡ found ∷ offsets (left after) = some-given mark left before after found status gives in
    let later : AscendsTo found (offsets (left after)) end = subst (λ (places : List ℕ). Ascends None places end) at all in
    (rw at (above-here (offsets (left after)) found place end order later), ascends-within found end (offsets (left after)) later)

pub ascends-step : {S M : Type 0} (mark : ℕ → M) (left : S → List Boundary) (before after : S) (found : ℕ) (status : M) (last : Option ℕ) (end : ℕ)
    → YieldsFirst (λ (s : S). marked mark (left s)) before (Some (found, status)) after → Ascends last (offsets (left before)) end
    → AscendsTo found (offsets (left after)) end
ascends-step mark left before after found status last end gives all =
    ascends-next last end found (offsets (left after)) (subst (λ (places : List ℕ). Ascends last places end) (some-given mark left before after found status gives) all)

pub ascends-rest : (found end : ℕ) (places : List ℕ) → AscendsTo found places end → Ascends None places end
ascends-rest found end [] all = tt
ascends-rest found end (place ∷ places) all = all.1

pub above-passed : {S M : Type 0} (mark : ℕ → M) (left : S → List Boundary) (before after : S) (found : ℕ) (status : M) (place : ℕ) (nearest : Option ℕ)
    → YieldsFirst (λ (s : S). marked mark (left s)) before (Some (found, status)) after → found ≤ place
    → IsNearestAbove (offsets (left after)) place nearest → IsNearestAbove (offsets (left before)) place nearest
above-passed mark left before after found status place nearest gives order is =
    rw (some-given mark left before after found status gives) (above-later (offsets (left after)) found place nearest order is)

pub above-ended : {S M : Type 0} (mark : ℕ → M) (left : S → List Boundary) (before after : S) (place : ℕ)
    → YieldsFirst (λ (s : S). marked mark (left s)) before None after → IsNearestAbove (offsets (left before)) place None
above-ended mark left before after place gives = rw (none-given mark left before after gives) (above-none place)

pub below-passed : {S M : Type 0} (mark : ℕ → M) (left : S → List Boundary) (before after : S) (found : ℕ) (status : M) (last : Option ℕ) (place end : ℕ) (nearest : Option ℕ)
    → YieldsFirst (λ (s : S). marked mark (left s)) before (Some (found, status)) after → Ascends last (offsets (left before)) end → found < place
    → IsNearestBelow (found ∷ offsets (left after)) place nearest → IsNearestBelow (cons_option last (offsets (left before))) place nearest
below-passed mark left before after found status last place end nearest gives all order is =
    let at : offsets (left before) ≡ found ∷ offsets (left after) = some-given mark left before after found status gives in
    rw at (below-next last found place end (offsets (left after)) nearest (subst (λ (places : List ℕ). Ascends last places end) at all) order is)

pub below-found : {S M : Type 0} (mark : ℕ → M) (left : S → List Boundary) (before after : S) (found : ℕ) (status : M) (last : Option ℕ) (place end : ℕ)
    → YieldsFirst (λ (s : S). marked mark (left s)) before (Some (found, status)) after → Ascends last (offsets (left before)) end → place ≤ found
    → IfSome last (λ from. from < place) → IsNearestBelow (cons_option last (offsets (left before))) place last
below-found mark left before after found status last place end gives all order below =
    let at : offsets (left before) ≡ found ∷ offsets (left after) = some-given mark left before after found status gives in
    rw at (below-stop last place (found ∷ offsets (left after)) (all-above last found place end (offsets (left after)) (subst (λ (places : List ℕ). Ascends last places end) at all) order) below)

pub below-ended : {S M : Type 0} (mark : ℕ → M) (left : S → List Boundary) (before after : S) (last : Option ℕ) (place : ℕ)
    → YieldsFirst (λ (s : S). marked mark (left s)) before None after → IfSome last (λ from. from < place)
    → IsNearestBelow (cons_option last (offsets (left before))) place last
below-ended mark left before after last place gives below =
    rw (none-given mark left before after gives) (below-stop last place [] (λ other has. absurd (has-none other has)) below)

-- ---- whether a place is among others

pub among : (places : List ℕ) (place : ℕ) (next : Option ℕ) (is : Bool) → 0 < place → IsNearestAbove places (place - 1) next
    → is ≡ option_eq eqb next (Some place) → IsTrue is ↔ Contains places place
among places place None is some nearest equal = (
  λ true_is. absurd (true-not-false (sym true_is ∙ equal)),
  λ has. absurd (omega (arith, some, nearest place has)),
)
  where
    true-not-false : true ≡ false → ⊥
    true-not-false is = cc
among places place (Some found) is some nearest equal = (
  λ true_is. subst (Contains places) (eqb-true found place (sym equal ∙ true_is)) nearest.0,
  λ has. equal ∙ eq-eqb found place (omega (arith, some, nearest.1, nearest.2 place has (omega (arith, some)))),
)
