-- Lists of numbers whose elements pass a test by their place.
use Rattle.std.proofs.Common.{◌≡◌, ℕ, zero, suc, ◌+◌, ◌*◌, ◌/◌, ◌%◌, ◌<◌, Bool, true, ◌&&◌, List, [], ◌∷◌, length, get_or, ap, ◌∙◌, arith, sym, zero-add}
use Rattle.std.proofs.lemmas.Bool.{and_parts}
use Rattle.std.proofs.lemmas.Nat.{div-mul-add, mod-mul-add}

unfoldable pub cells : (ℕ → ℕ → Bool) → ℕ → List ℕ → Bool
cells test k [] = true
cells test k (x ∷ xs) = test k x && cells test (suc k) xs

cell-from : (test : ℕ → ℕ → Bool) (k i : ℕ) (xs : List ℕ) → cells test k xs ≡ true → i < length xs → test (k + i) (get_or xs i 0) ≡ true
unfolding cells
cell-from test k i [] all below = absurd (omega (arith, below))
cell-from test k zero (x ∷ xs) all below =
    let here : k ≡ k + 0 = omega arith in
    ap (λ n. test n x) (sym here) ∙ (and_parts (test k x) _ all).0
cell-from test k (suc i) (x ∷ xs) all below =
    let here : suc k + i ≡ k + suc i = omega arith in
    ap (λ n. test n (get_or xs i 0)) (sym here) ∙ cell-from test (suc k) i xs (and_parts (test k x) _ all).1 (omega (arith, below))

pub cell-at : (test : ℕ → ℕ → Bool) (i : ℕ) (xs : List ℕ) → cells test 0 xs ≡ true → i < length xs → test i (get_or xs i 0) ≡ true
cell-at test i xs all below = ap (λ n. test n (get_or xs i 0)) (sym (zero-add i)) ∙ cell-from test 0 i xs all below

-- a cell of rows of a width
pub row-of : (q x width : ℕ) → q < width → (q + x * width) / width ≡ x
row-of q x width below = let turned : q + x * width ≡ x * width + q = omega arith in ap (λ n. n / width) turned ∙ div-mul-add x width q below

pub column-of : (q x width : ℕ) → q < width → (q + x * width) % width ≡ q
column-of q x width below = let turned : q + x * width ≡ x * width + q = omega arith in ap (λ n. n % width) turned ∙ mod-mul-add x width q below
