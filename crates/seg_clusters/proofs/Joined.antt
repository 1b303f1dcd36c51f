-- A list whose stretches end where its first part ends: its boundaries are those of the two parts.
use Rattle.std.proofs.Common.{◌≡◌, ℕ, zero, suc, ◌+◌, ◌-◌, ◌<◌, ◌≤◌, List, [], ◌∷◌, ◌++◌, drop, length, sym, ap, ◌∙◌, arith, append_assoc}
use Rattle.std.proofs.lemmas.List.{length-drop, drop-drop, drop-append-le}
use Rattle.seg_text.specs.declared.boundary.Boundary.{Boundary}
use Rattle.seg_text.specs.Boundaries.{shift_all, start, Stretch, HasProgress, later_boundaries, list_boundaries}
use Rattle.seg_text.proofs.Places.{shifted-append, shifted-none, shifted-twice}
use Rattle.seg_text.proofs.Stretches.{later-nil, later-next}

-- wherever a stretch of the first part begins, it is the same with the second part behind, and within the first
abbrev pub EndsWithin : {X : Type 0} → (List X → Stretch) → List X → List X → Type 0
EndsWithin {X} first xs ys =
    (skipped : ℕ) → skipped < length xs
    → (first (drop skipped xs ++ ys) ≡ first (drop skipped xs)) × ((first (drop skipped xs)).extent ≤ length xs - skipped)

rest-within : {X : Type 0} (first : List X → Stretch) (xs ys : List X) (n : ℕ) → EndsWithin first xs ys → EndsWithin first (drop n xs) ys
rest-within first xs ys n within skipped less =
    let size = length-drop n xs in
    let found = within (n + skipped) (omega (arith, size)) in
    let same = drop-drop skipped n xs in
    let few : length xs - (n + skipped) ≡ length (drop n xs) - skipped = omega (arith, size) in
    rw same (found.0, rw (← few) found.1)

module _ {X : Type 0} (first : List X → Stretch) (going : HasProgress first) (ys : List X) where
  abbrev later : List X → List Boundary
  later = later_boundaries first

  joined : (most : ℕ) (xs : List X) → length xs ≤ most → EndsWithin first xs ys → later (xs ++ ys) ≡ later xs ++ shift_all (length xs) (later ys)
  joined most [] bound within = sym (ap (λ (none : List Boundary). none ++ shift_all 0 (later ys)) (later-nil first) ∙ shifted-none (later ys))
  joined zero (x ∷ xs) bound within = absurd (omega arith)
  joined (suc most) (x ∷ xs) bound within =
      let stretch = first (x ∷ xs) in
      let n = stretch.extent in
      let here = within 0 (omega arith) in
      let raw : n ≤ length (x ∷ xs) - 0 = here.1 in
      let inside : n ≤ length (x ∷ xs) = omega arith in
      let size = length-drop n (x ∷ xs) in
      let rest = drop n (x ∷ xs) in
      let fewer : length rest ≤ most = omega (arith, size, going x xs) in
      let sum : n + length rest ≡ length (x ∷ xs) = omega (arith, size) in
      later-next first going x (xs ++ ys)
      ∙ ap (λ (s : Stretch). s.boundaries ++ shift_all s.extent (later (drop s.extent (x ∷ (xs ++ ys))))) here.0
      ∙ ap (λ (left : List X). stretch.boundaries ++ shift_all n (later left)) (drop-append-le n (x ∷ xs) ys inside)
      ∙ ap (λ (found : List Boundary). stretch.boundaries ++ shift_all n found) (joined most rest fewer (rest-within first (x ∷ xs) ys n within))
      ∙ ap (λ (found : List Boundary). stretch.boundaries ++ found) (shifted-append n (later rest) (shift_all (length rest) (later ys)))
      ∙ ap (λ (found : List Boundary). stretch.boundaries ++ (shift_all n (later rest) ++ found)) (shifted-twice n (length rest) (later ys))
      ∙ ap (λ (k : ℕ). stretch.boundaries ++ (shift_all n (later rest) ++ shift_all k (later ys))) sum
      ∙ sym (append_assoc stretch.boundaries (shift_all n (later rest)) (shift_all (length (x ∷ xs)) (later ys)))
      ∙ sym (ap (λ (found : List Boundary). found ++ shift_all (length (x ∷ xs)) (later ys)) (later-next first going x xs))

  -- later boundaries are those of the first part, and then those of the second, so much later
  pub later-joined : (xs : List X) → EndsWithin first xs ys → later (xs ++ ys) ≡ later xs ++ shift_all (length xs) (later ys)
  later-joined xs within = joined (length xs) xs (omega arith) within

  pub boundaries-joined : (xs : List X) → EndsWithin first xs ys
      → list_boundaries first (xs ++ ys) ≡ list_boundaries first xs ++ shift_all (length xs) (drop 1 (list_boundaries first ys))
  boundaries-joined xs within = ap (λ (found : List Boundary). start ∷ found) (later-joined xs within)
