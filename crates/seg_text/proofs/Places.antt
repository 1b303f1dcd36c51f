-- The places of items that rise, and boundaries that stand at them, or later.
use Rattle.std.proofs.Common.{◌≡◌, ℕ, zero, suc, ◌+◌, ◌<◌, ◌≤◌, List, [], ◌∷◌, ◌++◌, map, take, drop, refl, ap, sym, arith}
use Rattle.std.proofs.lemmas.List.{drop-drop, drop-map}
use Rattle.seg_text.specs.Items.{Item, Text, place_of, rest_after, code_points, IsRising}
use Rattle.seg_text.specs.declared.boundary.Boundary.{Boundary}
use Rattle.seg_text.specs.Boundaries.{shift, shift_all, boundary_in}

pub IsRising-drop : (items : List Item) (end n : ℕ) → IsRising items end → IsRising (drop n items) end
IsRising-drop items end zero rising = rising
IsRising-drop [] end (suc n) rising = rising
IsRising-drop (item ∷ items) end (suc n) rising = IsRising-drop items end n rising.1

place_of-drop-le : (items : List Item) (end n : ℕ) → IsRising items end → place_of items end ≤ place_of (drop n items) end
place_of-drop-le items end zero rising = omega arith
place_of-drop-le [] end (suc n) rising = omega arith
place_of-drop-le (item ∷ items) end (suc n) rising = omega (arith, place_of-drop-le items end n rising.1, rising.0)

pub place_of-drop-lt : (item : Item) (items : List Item) (end n : ℕ) → IsRising (item ∷ items) end → 0 < n
    → item.0 < place_of (drop n (item ∷ items)) end
place_of-drop-lt item items end zero rising some = absurd (omega arith)
place_of-drop-lt item items end (suc n) rising some = omega (arith, place_of-drop-le items end n rising.1, rising.0)

pub code_points-drop : (n : ℕ) (items : List Item) → code_points (drop n items) ≡ drop n (code_points items)
code_points-drop n items = sym (drop-map (λ (item : Item). item.1) n items)

-- later boundaries of a text are those of what is left
pub in-shift : (text : Text) (n : ℕ) (counted : List Boundary)
    → map (boundary_in text) (shift_all n counted) ≡ map (boundary_in (rest_after n text)) counted
in-shift text n [] = refl
in-shift text n (boundary ∷ counted) = rw (drop-drop boundary.offset n text.items, in-shift text n counted) refl

pub in-append : (text : Text) (some others : List Boundary)
    → map (boundary_in text) (some ++ others) ≡ map (boundary_in text) some ++ map (boundary_in text) others
in-append text [] others = refl
in-append text (boundary ∷ some) others = ap (λ (rest : List Boundary). boundary_in text boundary ∷ rest) (in-append text some others)

-- boundaries so much later

pub shifted-none : (boundaries : List Boundary) → shift_all 0 boundaries ≡ boundaries
shifted-none [] = refl
shifted-none (boundary ∷ boundaries) =
    let none : 0 + boundary.offset ≡ boundary.offset = omega arith in
    rw (none, shifted-none boundaries) refl

pub shifted-twice : (n m : ℕ) (boundaries : List Boundary) → shift_all n (shift_all m boundaries) ≡ shift_all (n + m) boundaries
shifted-twice n m [] = refl
shifted-twice n m (boundary ∷ boundaries) =
    let sum : n + (m + boundary.offset) ≡ (n + m) + boundary.offset = omega arith in
    rw (sum, shifted-twice n m boundaries) refl

pub shifted-append : (n : ℕ) (some others : List Boundary) → shift_all n (some ++ others) ≡ shift_all n some ++ shift_all n others
shifted-append n [] others = refl
shifted-append n (boundary ∷ some) others = ap (λ (rest : List Boundary). shift n boundary ∷ rest) (shifted-append n some others)

-- places in a beginning of a text stand at the same places in the text
pub place-before : (items : List Item) (end n cut : ℕ) → cut ≤ n → place_of (drop cut (take n items)) (place_of (drop n items) end) ≡ place_of (drop cut items) end
place-before items end zero zero below = refl
place-before items end zero (suc cut) below = absurd (omega arith)
place-before [] end (suc n) zero below = refl
place-before (item ∷ items) end (suc n) zero below = refl
place-before [] end (suc n) (suc cut) below = refl
place-before (item ∷ items) end (suc n) (suc cut) below = place-before items end n cut (omega (arith, below))
