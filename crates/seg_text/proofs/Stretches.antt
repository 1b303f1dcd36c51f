-- A list that is cut stretch by stretch: its boundaries, the only ones, in a list and in a text.
use Rattle.std.proofs.Common.{◌≡◌, ℕ, zero, suc, ◌<◌, ◌≤◌, List, [], ◌∷◌, ◌++◌, length, map, drop, refl, sym, ap, ◌∙◌, arith}
use Rattle.std.proofs.lemmas.List.{length-drop, length-map, drop-map}
use Rattle.seg_text.specs.Items.{Item, Text, rest_after, code_points}
use Rattle.seg_text.specs.declared.boundary.Boundary.{Boundary}
use Rattle.seg_text.specs.Boundaries.{start, shift_all, boundary_in, boundaries_in, AreSameCounted, Stretch, AreLaterBoundaries, later_boundaries_within, later_boundaries, HasOneAnswer, HasProgress}
use Rattle.seg_text.proofs.Places.{in-append, in-shift, code_points-drop}

fewer : {X : Type 0} (n most : ℕ) (x : X) (xs : List X) → 0 < n → length (x ∷ xs) ≤ suc most → length (drop n (x ∷ xs)) ≤ most
fewer n most x xs some bound = omega (arith, length-drop n (x ∷ xs))

pub later-nil : {X : Type 0} (first : List X → Stretch) → later_boundaries first [] ≡ []
unfolding later_boundaries later_boundaries_within
later-nil first = refl

module _ {X : Type 0} (first : List X → Stretch) (going : HasProgress first) where
  -- more stretches than the elements that there are change nothing
  later-more : (most more : ℕ) (xs : List X) → length xs ≤ most → length xs ≤ more → later_boundaries_within first most xs ≡ later_boundaries_within first more xs
  unfolding later_boundaries_within
  later-more zero zero xs bound other = refl
  later-more zero (suc more) [] bound other = refl
  later-more zero (suc more) (x ∷ xs) bound other = absurd (omega arith)
  later-more (suc most) zero [] bound other = refl
  later-more (suc most) zero (x ∷ xs) bound other = absurd (omega arith)
  later-more (suc most) (suc more) [] bound other = refl
  later-more (suc most) (suc more) (x ∷ xs) bound other =
      let n = (first (x ∷ xs)).extent in
      ap (λ (later : List Boundary). (first (x ∷ xs)).boundaries ++ shift_all n later)
      (later-more most more (drop n (x ∷ xs)) (fewer n most x xs (going x xs) bound) (fewer n more x xs (going x xs) other))

  -- the boundaries of the first stretch, and then those of what is left
  pub later-next : (x : X) (xs : List X)
      → later_boundaries first (x ∷ xs)
      ≡ (first (x ∷ xs)).boundaries ++ shift_all (first (x ∷ xs)).extent (later_boundaries first (drop (first (x ∷ xs)).extent (x ∷ xs)))
  unfolding later_boundaries later_boundaries_within
  later-next x xs =
      let n = (first (x ∷ xs)).extent in
      ap (λ (later : List Boundary). (first (x ∷ xs)).boundaries ++ shift_all n later)
      (later-more (length xs) (length (drop n (x ∷ xs))) (drop n (x ∷ xs)) (fewer n (length xs) x xs (going x xs) (omega arith)) (omega arith))

  -- they are the only ones
  pub later-only : (xs : List X) (stretches : List Stretch) (found : List Boundary) → AreLaterBoundaries first xs stretches found → found ≡ later_boundaries first xs
  later-only [] [] found are = are ∙ sym (later-nil first)
  later-only [] (stretch ∷ stretches) found are = absurd are
  later-only (x ∷ xs) [] found are = absurd are
  later-only (x ∷ xs) (stretch ∷ stretches) found (is, (later, sum, are)) =
      sum ∙ ap (λ (later : List Boundary). stretch.boundaries ++ shift_all stretch.extent later) (later-only (drop stretch.extent (x ∷ xs)) stretches later are)
      ∙ ap (λ (s : Stretch). s.boundaries ++ shift_all s.extent (later_boundaries first (drop s.extent (x ∷ xs)))) (sym is)
      ∙ sym (later-next x xs)

  later-are-within : (most : ℕ) (xs : List X) → length xs ≤ most → (stretches : List Stretch) × AreLaterBoundaries first xs stretches (later_boundaries first xs)
  later-are-within most [] bound = ([], later-nil first)
  later-are-within zero (x ∷ xs) bound = absurd (omega arith)
  later-are-within (suc most) (x ∷ xs) bound =
      let stretch = first (x ∷ xs) in
      let rest = later-are-within most (drop stretch.extent (x ∷ xs)) (fewer stretch.extent most x xs (going x xs) bound) in
      (stretch ∷ rest.0, (refl, (later_boundaries first (drop stretch.extent (x ∷ xs)), later-next x xs, rest.1)))

  pub later-are : (xs : List X) → (stretches : List Stretch) × AreLaterBoundaries first xs stretches (later_boundaries first xs)
  later-are xs = later-are-within (length xs) xs (omega arith)

  pub one-answer : HasOneAnswer first
  one-answer = record {
    exists = λ xs. let are = later-are xs in (are.0, (_, refl, are.1));
    only = λ xs found are. are.1.1 ∙ ap (λ (later : List Boundary). start ∷ later) (later-only xs are.0 are.1.0 are.1.2);
  }

-- boundaries are found in the code points alone
pub same-counted : (find : List ℕ → List Boundary) (one other : Text) → code_points one.items ≡ code_points other.items
    → AreSameCounted one (boundaries_in find one) other (boundaries_in find other)
same-counted find one other same = (find (code_points one.items), refl, ap (λ cps. map (boundary_in other) (find cps)) (sym same))

pub text-later-nil : (first : List ℕ → Stretch) (end : ℕ) → boundaries_in (later_boundaries first) (record { items = []; end = end }) ≡ []
text-later-nil first end = rw (later-nil first) refl

-- the boundaries of a text: those of its first stretch, and then those of what is left
pub text-later-next : (first : List ℕ → Stretch) → HasProgress first → (item : Item) (items : List Item) (end : ℕ)
    → let text : Text = record { items = item ∷ items; end = end } in let stretch = first (code_points (item ∷ items)) in
    boundaries_in (later_boundaries first) text
    ≡ map (boundary_in text) stretch.boundaries ++ boundaries_in (later_boundaries first) (rest_after stretch.extent text)
text-later-next first going item items end =
    let text : Text = record { items = item ∷ items; end = end } in
    let stretch = first (code_points (item ∷ items)) in
    rw (later-next first going item.1 (code_points items), in-append, in-shift text stretch.extent, code_points-drop stretch.extent (item ∷ items)) refl

later_boundaries_within-map : {X Y : Type 0} (f : X → Y) (first : List Y → Stretch) (most : ℕ) (xs : List X)
    → later_boundaries_within (λ (xs : List X). first (map f xs)) most xs ≡ later_boundaries_within first most (map f xs)
unfolding later_boundaries_within
later_boundaries_within-map f first zero xs = refl
later_boundaries_within-map f first (suc most) [] = refl
later_boundaries_within-map f first (suc most) (x ∷ xs) =
    let n = (first (map f (x ∷ xs))).extent in
    ap (λ (later : List Boundary). (first (map f (x ∷ xs))).boundaries ++ shift_all n later)
    (later_boundaries_within-map f first most (drop n (x ∷ xs)) ∙ ap (later_boundaries_within first most) (sym (drop-map f n (x ∷ xs))))

-- what maps the elements first finds the same
pub later-map : {X Y : Type 0} (f : X → Y) (first : List Y → Stretch) (xs : List X) → later_boundaries (λ (xs : List X). first (map f xs)) xs ≡ later_boundaries first (map f xs)
unfolding later_boundaries
later-map f first xs = rw (length-map xs f) (later_boundaries_within-map f first (length xs) xs)
