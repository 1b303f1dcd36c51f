-- The digits of a number but the last four, which are kept.
use Rattle.std.proofs.Common.{◌≡◌, ℕ, zero, suc, ◌+◌, ◌-◌, ◌*◌, ◌/◌, ◌%◌, ◌^◌, ◌<◌, ◌≤◌, Bool, true, ◌&&◌, T, eqb, List, ◌++◌, get_or, length, take, decimal, refl, sym, ap, ◌∙◌, inl, inr, arith, eq-zero-or-pos, eqb→eq, append_assoc, take-take}
use Rattle.std.proofs.Math.Seq.{take-append_seam}
use Rattle.itoa.proofs.Decimal.{decimal_four, length_four, pair}
use Rattle.segment_text.specs.declared.digits.TheConstants.{PAIRS}
use lib.Ieee.Fits.{and_l, and_r}

abbrev are_pairs : ℕ → Bool
are_pairs zero = true
are_pairs (suc n) = (eqb (get_or PAIRS (n * 2) 0) (48 + n / 10) && eqb (get_or PAIRS (n * 2 + 1) 0) (48 + n % 10)) && are_pairs n

below : (n k : ℕ) → T (are_pairs n) → k < n → (get_or PAIRS (k * 2) 0 ≡ 48 + k / 10) × (get_or PAIRS (k * 2 + 1) 0 ≡ 48 + k % 10)
below zero k are low = absurd (omega arith)
below (suc n) k are low =
    elim (eq-zero-or-pos (n - k)) [
      | inl last ↦ let is : k ≡ n = omega arith in let both = and_l _ (are_pairs n) are in rw is (eqb→eq _ _ (and_l _ _ both), eqb→eq _ _ (and_r _ _ both))
      | inr more ↦ below n k (and_r _ (are_pairs n) are) (omega arith)
    ]

-- each pair of the table
pub pair-at : (k : ℕ) → k < 100 → (get_or PAIRS (k * 2) 0 ≡ 48 + k / 10) × (get_or PAIRS (k * 2 + 1) 0 ≡ 48 + k % 10)
pair-at k low = below 100 k tt low

-- a number that begins with the digits that are kept
pub near-digits : (from rest len : ℕ) (digits : List ℕ) → 10000 ≤ from → from % 10000 ≡ 0 → rest < 10000 → from + rest < 2 ^ 64 → take len digits ≡ decimal (from / 10000)
    → decimal (from + rest) ≡ take len digits ++ (pair (rest / 100) ++ pair (rest % 100))
near-digits from rest len digits some whole near fits is =
    let high : (from + rest) / 10000 ≡ from / 10000 = omega (arith, whole, near) in
    let low : (from + rest) % 10000 ≡ rest = omega (arith, whole, near) in
    decimal_four (from + rest) (omega (arith, some)) fits
    ∙ ap (λ (n : ℕ). decimal n ++ (pair ((from + rest) % 10000 / 100) ++ pair ((from + rest) % 10000 % 100))) high
    ∙ ap (λ (n : ℕ). decimal (from / 10000) ++ (pair (n / 100) ++ pair (n % 100))) low
    ∙ ap (λ (ys : List ℕ). ys ++ (pair (rest / 100) ++ pair (rest % 100))) (sym is)

-- the digits that are kept of a number, where they stand before others
pub kept-digits : (number len : ℕ) (digits behind : List ℕ) → 10000 ≤ number → number < 2 ^ 64 → len + 4 ≡ length (decimal number) → len ≤ 16 → digits ≡ take 16 (decimal number ++ behind)
    → take len digits ≡ decimal ((number - number % 10000) / 10000)
kept-digits number len digits behind some fits long few is =
    let high : (number - number % 10000) / 10000 ≡ number / 10000 = omega arith in
    let count : length (decimal (number / 10000)) ≡ len = omega (arith, long, length_four number some fits) in
    let last : List ℕ = pair (number % 10000 / 100) ++ pair (number % 10000 % 100) in
    ap (λ (ys : List ℕ). take len ys) is
    ∙ take-take len 16 (decimal number ++ behind) few
    ∙ ap (λ (ys : List ℕ). take len (ys ++ behind)) (decimal_four number some fits)
    ∙ ap (λ (ys : List ℕ). take len ys) (append_assoc (decimal (number / 10000)) last behind)
    ∙ ap (λ (n : ℕ). take n (decimal (number / 10000) ++ (last ++ behind))) (sym count)
    ∙ take-append_seam (decimal (number / 10000)) (last ++ behind)
    ∙ ap (λ (n : ℕ). decimal n) (sym high)

-- pieces behind one another
pub pieces : (l a b c l1 l2 l3 : List ℕ) → l1 ≡ l ++ a → l2 ≡ l1 ++ b → l3 ≡ l2 ++ c → l3 ≡ l ++ (a ++ (b ++ c))
pieces l a b c l1 l2 l3 one two three = rw (three, two, one, append_assoc (l ++ a) b c, append_assoc l a (b ++ c)) refl
