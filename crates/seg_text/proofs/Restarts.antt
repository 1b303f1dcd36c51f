-- Restart: where stretches have one boundary at most, at their end, the boundaries after one of them are those of the rest.
use Rattle.std.proofs.Common.{◌≡◌, ℕ, zero, suc, ◌+◌, ◌≤◌, List, [], ◌∷◌, length, drop, slice_get, refl, sym, ap, ◌∙◌, inl, inr, arith}
use Rattle.std.specs.Prelude.{Option, Some, None}
use Rattle.std.specs.Option.{option_map}
use Rattle.std.proofs.lemmas.List.{length-drop, drop-drop, drop-map}
use Rattle.std.proofs.lemmas.Option.{slice_get-map, same_Some, none-some}
use Rattle.seg_text.specs.declared.boundary.Boundary.{Boundary}
use Rattle.seg_text.specs.Boundaries.{start, shift, shift_all, HasRestart, RestartsIn, Stretch, later_boundaries, list_boundaries, HasProgress, HasEndAlone}
use Rattle.seg_text.proofs.Places.{shifted-none, shifted-twice}
use Rattle.seg_text.proofs.Stretches.{later-nil, later-next}

-- what was shifted
unshifted : (n : ℕ) (found : Option Boundary) (boundary : Boundary) → option_map (shift n) found ≡ Some boundary
    → (before : Boundary) × (found ≡ Some before) × (boundary ≡ shift n before)
unshifted n None boundary is = absurd (none-some boundary is)
unshifted n (Some before) boundary is = (before, refl, sym (same_Some _ _ is))

module _ {X : Type 0} (first : List X → Stretch) (going : HasProgress first) (alone : (x : X) (xs : List X) → HasEndAlone (first (x ∷ xs))) where
  -- the boundaries after the k-th of some stretches
  abbrev Restarts : List X → ℕ → Boundary → Type 0
  Restarts xs k boundary =
      slice_get (later_boundaries first xs) k ≡ Some boundary
      → drop (suc k) (later_boundaries first xs) ≡ shift_all boundary.offset (later_boundaries first (drop boundary.offset xs))

  -- later boundaries are those of what is left after a stretch, counted from its start
  later : (n : ℕ) (xs : List X) (k : ℕ) (boundary : Boundary) → ((before : Boundary) → Restarts (drop n xs) k before)
      → slice_get (shift_all n (later_boundaries first (drop n xs))) k ≡ Some boundary
      → drop (suc k) (shift_all n (later_boundaries first (drop n xs))) ≡ shift_all boundary.offset (later_boundaries first (drop boundary.offset xs))
  later n xs k boundary restarts is =
      let found = unshifted n _ boundary (sym (slice_get-map (shift n) (later_boundaries first (drop n xs)) k) ∙ is) in
      let before = found.0 in
      let moved : before.offset + n ≡ n + before.offset = omega arith in
      rw (
        found.2,
        drop-map (shift n) (suc k) (later_boundaries first (drop n xs)),
        restarts before found.1,
        shifted-twice n before.offset,
        drop-drop before.offset n xs,
        ← moved,
      )
      refl

  restarts-within : (most : ℕ) (xs : List X) (k : ℕ) (boundary : Boundary) → length xs ≤ most → Restarts xs k boundary
  restarts-within most [] k boundary bound = λ is. absurd (none-some boundary (rw (later-nil first) at is))
  restarts-within zero (x ∷ xs) k boundary bound = absurd (omega arith)
  restarts-within (suc most) (x ∷ xs) k boundary bound =
      let n = (first (x ∷ xs)).extent in
      let fewer : length (drop n (x ∷ xs)) ≤ most = omega (arith, length-drop n (x ∷ xs), going x xs) in
      on (alone x xs) k (λ k before. restarts-within most (drop n (x ∷ xs)) k before fewer)
    where
      on : HasEndAlone (first (x ∷ xs)) → (k : ℕ)
          → ((k : ℕ) (before : Boundary) → Restarts (drop (first (x ∷ xs)).extent (x ∷ xs)) k before) → Restarts (x ∷ xs) k boundary
      on (inl none) k rest = λ is.
          let next : later_boundaries first (x ∷ xs) ≡ shift_all (first (x ∷ xs)).extent (later_boundaries first (drop (first (x ∷ xs)).extent (x ∷ xs))) =
          rw none at (later-next first going x xs) in
          rw next (later (first (x ∷ xs)).extent (x ∷ xs) k boundary (rest k) (rw next at is))
      on (inr (status, one)) zero rest = λ is.
          let end : Boundary = record { offset = (first (x ∷ xs)).extent; status = status } in
          let next : later_boundaries first (x ∷ xs) ≡ end ∷ shift_all (first (x ∷ xs)).extent (later_boundaries first (drop (first (x ∷ xs)).extent (x ∷ xs))) =
          rw one at (later-next first going x xs) in
          let same : end ≡ boundary = same_Some _ _ (rw next at is) in
          rw (next, ← same) refl
      on (inr (status, one)) (suc k) rest = λ is.
          let next : later_boundaries first (x ∷ xs) ≡ record { offset = (first (x ∷ xs)).extent; status = status } ∷ shift_all (first (x ∷ xs)).extent (later_boundaries first (drop (first (x ∷ xs)).extent (x ∷ xs))) =
          rw one at (later-next first going x xs) in
          rw next (later (first (x ∷ xs)).extent (x ∷ xs) k boundary (rest k) (rw next at is))

  pub restarts : HasRestart (list_boundaries first)
  restarts xs zero boundary is =
      let same : start ≡ boundary = same_Some _ _ is in
      rw (← same) (sym (shifted-none (later_boundaries first xs)))
  restarts xs (suc k) boundary is = restarts-within (length xs) xs k boundary (omega arith) is

-- what finds the same in a list and in what is left of it may be begun anew where the other may
pub restarts-as : (find other : List ℕ → List Boundary) (xs : List ℕ) → ((n : ℕ) → find (drop n xs) ≡ other (drop n xs)) → RestartsIn other xs → RestartsIn find xs
restarts-as find other xs same restart k boundary is =
    ap (drop (suc k)) (same 0)
    ∙ restart k boundary (sym (ap (λ (found : List Boundary). slice_get found k) (same 0)) ∙ is)
    ∙ sym (ap (λ (found : List Boundary). shift_all boundary.offset (drop 1 found)) (same boundary.offset))
