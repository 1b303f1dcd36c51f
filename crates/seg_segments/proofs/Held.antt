-- Boundaries that were found many at a time, and their places.
use Rattle.std.proofs.Common.{◌≡◌, ℕ, suc, ◌+◌, ◌-◌, ◌<◌, ◌≤◌, List, [], ◌∷◌, ◌++◌, take, drop, map, length, slice_index, refl, sym, ap, ◌∙◌, arith}
use Rattle.std.proofs.lemmas.List.{drop-map, drop_more, length-take-le, take-append-drop, take-map, take_at}
use Rattle.seg_text.specs.declared.boundary.Boundary.{Boundary}
use Rattle.seg_text.specs.Boundaries.{boundary, offsets}
use Rattle.seg_text.specs.Filled.{TakesFirst, statuses as all_statuses}
use Rattle.seg_segments.specs.HeldBoundaries.{boundaries_at, held_boundaries, held_from}
use Rattle.seg_segments.specs.TextSegments.{marked}

-- ---- numbers

none-from : (next end : ℕ) (found : List ℕ) → next ≡ end → held_from next end found ≡ []
none-from next end found same =
    let none : end - next ≡ 0 = omega (arith, same) in
    rw none refl

-- one of them is given
first-from : (next end : ℕ) (found : List ℕ) → next < end → end ≤ length found → held_from next end found ≡ slice_index found next ∷ held_from (next + 1) end found
first-from next end found some inside =
    let count : end - next ≡ suc (end - (next + 1)) = omega (arith, some) in
    let within : next < length found = omega (arith, some, inside) in
    rw (count, drop_more found next 0 within) refl

-- those that were written
all-from : (room : ℕ) (all old new : List ℕ) (count : ℕ) → TakesFirst room all old new count → held_from 0 count new ≡ take count all
all-from room all old new count taken =
    let same : count - 0 ≡ count = omega arith in
    let few : count ≤ length all = omega (arith, taken.few) in
    rw (same, taken.first) (take_at (take count all) (drop count old) count (length-take-le count all few))

-- ---- places

pub no-place-held : (next end : ℕ) (places later : List ℕ) → next ≡ end → held_from next end places ++ later ≡ later
no-place-held next end places later same = ap (λ (some : List ℕ). some ++ later) (none-from next end places same)

pub place-given : (next end : ℕ) (places later : List ℕ) → next < end → end ≤ length places
    → held_from next end places ++ later ≡ slice_index places next ∷ (held_from (next + 1) end places ++ later)
place-given next end places later some inside = ap (λ (some : List ℕ). some ++ later) (first-from next end places some inside)

-- places are had back from boundaries with their marks
places-of : {M : Type 0} (mark : ℕ → M) (boundaries : List Boundary) → map (λ (b : ℕ × M). b.0) (marked mark boundaries) ≡ offsets boundaries
places-of mark [] = refl
places-of mark (boundary ∷ boundaries) = ap (λ (later : List ℕ). boundary.offset ∷ later) (places-of mark boundaries)

-- none was held, so many were found, and the rest is left
pub places-refilled : {M : Type 0} (mark : ℕ → M) (before after : List Boundary) (old new : List ℕ) (count : ℕ) → TakesFirst (length old) (offsets before) old new count
    → marked mark after ≡ drop count (marked mark before) → offsets before ≡ held_from 0 count new ++ offsets after
places-refilled {M} mark before after old new count taken left =
    let rest : offsets after ≡ drop count (offsets before) =
    sym (places-of mark after) ∙ ap (map (λ (b : ℕ × M). b.0)) left ∙ sym (drop-map (λ (b : ℕ × M). b.0) count (marked mark before)) ∙ ap (drop count) (places-of mark before) in
    sym (rw (all-from (length old) (offsets before) old new count taken, rest) (take-append-drop count (offsets before)))

-- ---- boundaries

pub none-held : (next end : ℕ) (places statuses : List ℕ) (later : List Boundary) → next ≡ end → held_boundaries next end places statuses ++ later ≡ later
none-held next end places statuses later same = rw (none-from next end places same) refl

pub one-given : (next end : ℕ) (places statuses : List ℕ) (later : List Boundary) → next < end → end ≤ length places → end ≤ length statuses
    → held_boundaries next end places statuses ++ later
    ≡ boundary (slice_index places next) (slice_index statuses next) ∷ (held_boundaries (next + 1) end places statuses ++ later)
one-given next end places statuses later some here there = rw (first-from next end places some here, first-from next end statuses some there) refl

-- boundaries are had back from their places and statuses
at-all : (boundaries : List Boundary) → boundaries_at (offsets boundaries) (all_statuses boundaries) ≡ boundaries
at-all [] = refl
at-all (found ∷ boundaries) = ap (λ (later : List Boundary). found ∷ later) (at-all boundaries)

pub refilled : (room : ℕ) (before after : List Boundary) (old new olds news : List ℕ) (count : ℕ) → TakesFirst room (offsets before) old new count
    → TakesFirst room (all_statuses before) olds news count → after ≡ drop count before → before ≡ held_boundaries 0 count new news ++ after
refilled room before after old new olds news count places statuses left =
    let here : held_from 0 count new ≡ offsets (take count before) =
    all-from room (offsets before) old new count places ∙ take-map (λ (b : Boundary). b.offset) count before in
    let there : held_from 0 count news ≡ all_statuses (take count before) =
    all-from room (all_statuses before) olds news count statuses ∙ take-map (λ (b : Boundary). b.status) count before in
    let first : held_boundaries 0 count new news ≡ take count before = rw (here, there) (at-all (take count before)) in
    sym (rw (first, left) (take-append-drop count before))
