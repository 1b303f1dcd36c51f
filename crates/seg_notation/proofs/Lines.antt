-- Lines of characters, one after another.
use Rattle.std.proofs.Common.{◌≡◌, ℕ, ◌+◌, ◌-◌, ◌≤◌, Bool, true, false, cond, Option, Some, None, List, [], ◌∷◌, count_by, chars, IsUtf8, ◌/◌, ◌%◌, ◌^◌, ◌<◌, min, length, take, drop, refl, sym, subst, ◌∙◌, ap, arith}
use Rattle.std.proofs.lemmas.Grind.{common_steps}
use Rattle.std.specs.List.{position_or_len, before_first, after_first}
use Rattle.seg_notation.specs.Lines.{is_end, after_ends, line_at}
use Rattle.std.proofs.lemmas.Bool.Decides.{nat_tests}
use Rattle.std.proofs.lemmas.List.Sums.{sum_by-append}
use Rattle.std.proofs.lemmas.Str.{encodes-chars}
use lib.Dec.{ltb}
use lib.Utf8.{encode, encodes}
use native.Mathlib.Numerals.{unary_clauses}

some-of : (b : Bool) (n i : ℕ) → Some i ≡ cond b (Some n) None → n ≡ i
some-of true n i h = cc
some-of false n i h = cc

none-of : (b : Bool) (n : ℕ) → None ≡ cond b (Some n) None → b ≡ false
none-of true n h = cc
none-of false n h = refl

module _ (p : ℕ → Bool) (xs : List ℕ) (r : Option ℕ) (found : r ≡ cond (ltb (position_or_len p xs) (length xs)) (Some (position_or_len p xs)) None) where
  pub first-of : (i : ℕ) → r ≡ Some i → take i xs ≡ before_first p xs
  first-of i h = ap (λ n. take n xs) (sym (some-of _ _ i (sym h ∙ found)))

  pub others-of : (i : ℕ) → r ≡ Some i → take (length xs - (i + 1)) (drop (i + 1) xs) ≡ after_first p xs
  others-of i h = let e : position_or_len p xs ≡ i = some-of _ _ i (sym h ∙ found) in grind (arith, common_steps)

  pub all-first : r ≡ None → xs ≡ before_first p xs
  all-first h = let e : ltb (position_or_len p xs) (length xs) ≡ false = none-of _ _ (sym h ∙ found) in grind (arith, common_steps)

  pub none-other : r ≡ None → [] ≡ after_first p xs
  none-other h = let e : ltb (position_or_len p xs) (length xs) ≡ false = none-of _ _ (sym h ∙ found) in grind (arith, common_steps)

-- the lines behind one more
pub next-lines : (n : ℕ) (cs rest others : List ℕ) → rest ≡ after_ends n cs → others ≡ after_first is_end rest → others ≡ after_ends (n + 1) cs
unfolding after_ends
next-lines n cs rest others h k = k ∙ ap (after_first is_end) h ∙ simp unary_clauses refl

-- the line behind so many ends has the next number
pub within-line : (n number column : ℕ) (cs rest line : List ℕ) → rest ≡ after_ends n cs → line ≡ before_first is_end rest → number ≡ n + 1
    → column ≤ length line + 1 → column ≤ length (line_at number cs) + 1
within-line n number column cs rest line h k e few =
    let same : line ≡ line_at number cs = k ∙ ap (before_first is_end) (h ∙ ap (λ m. after_ends m cs) (omega arith)) in
    rw (← same) few

pub no-lines : (cs : List ℕ) → cs ≡ after_ends 0 cs
unfolding after_ends
no-lines cs = refl

-- an end of a line is a byte for itself, so that a text has no more of them than characters
at-most-one : (b : Bool) → cond b 1 0 ≤ 1
at-most-one true = omega arith
at-most-one false = omega arith

abbrev count : ℕ → ℕ
count b = cond (is_end b) 1 0

no-end : (b : ℕ) → 128 ≤ b → count b ≡ 0
no-end b h = grind (arith, nat_tests)

one-end-by : (t u v : Bool) (c x y z w k m : ℕ)
    → count_by is_end (cond t (c ∷ []) (cond u ((192 + x) ∷ (128 + y) ∷ []) (cond v ((224 + z) ∷ (128 + w) ∷ (128 + y) ∷ []) ((240 + k) ∷ (128 + m) ∷ (128 + w) ∷ (128 + y) ∷ [])))) ≤ 1
one-end-by true u v c x y z w k m = omega (arith, at-most-one (is_end c))
one-end-by false true v c x y z w k m = omega (arith, no-end (192 + x) (omega arith), no-end (128 + y) (omega arith))
one-end-by false false true c x y z w k m = omega (arith, no-end (224 + z) (omega arith), no-end (128 + w) (omega arith), no-end (128 + y) (omega arith))
one-end-by false false false c x y z w k m =
    omega (arith, no-end (240 + k) (omega arith), no-end (128 + m) (omega arith), no-end (128 + w) (omega arith), no-end (128 + y) (omega arith))

one-end : (c : ℕ) → count_by is_end (encode c) ≤ 1
unfolding encode
one-end c = one-end-by (ltb c 128) (ltb c 2048) (ltb c 65536) c (c / 64) (c % 64) (c / 4096) (c / 64 % 64) (c / 262144) (c / 4096 % 64)

few-ends : (cs : List ℕ) → count_by is_end (encodes cs) ≤ length cs
few-ends [] = omega arith
few-ends (c ∷ cs) = omega (arith, few-ends cs, one-end c, sum_by-append count (encode c) (encodes cs))

pub few-lines : (bytes : List ℕ) → IsUtf8 bytes → count_by is_end bytes ≤ length (chars bytes)
few-lines bytes h = subst (λ (all : List ℕ). count_by is_end all ≤ length (chars bytes)) (encodes-chars bytes h) (few-ends (chars bytes))

-- the number of the line behind so many ends, of a text whose characters are in memory
pub number-of : (n number ends : ℕ) (bytes : List ℕ) → IsUtf8 bytes → length (chars bytes) < 2 ^ 63 → ends ≡ count_by is_end bytes → n ≤ ends
    → number ≡ min (n + 1) (2 ^ 64 - 1) → number ≡ n + 1
number-of n number ends bytes h few e le k = omega (arith, few-lines bytes h)
