-- The first line of some, and the others.
use Rattle.std.proofs.Common.{◌≡◌, suc, ℕ, ◌+◌, ◌-◌, ◌<◌, ◌==◌, Bool, true, false, cond, not, Option, Some, None, List, [], ◌∷◌, IsUtf8, length, take, drop, refl, sym, ◌∙◌, ap, arith}
use Rattle.std.proofs.lemmas.Grind.{common_steps}
use Rattle.std.proofs.lemmas.Str.{IsUtf8-from_is_utf8}
use Rattle.std.specs.List.{position_or_len, before_first, after_first}
use Rattle.std.specs.Str.{is_utf8}
use Rattle.seg_hyphens.specs.Texts.{lines, longer}
use lib.Dec.{ltb}

some-of : (b : Bool) (n i : ℕ) → Some i ≡ cond b (Some n) None → n ≡ i
some-of true n i h = cc
some-of false n i h = cc

none-of : (b : Bool) (n : ℕ) → None ≡ cond b (Some n) None → b ≡ false
none-of true n h = cc
none-of false n h = refl

module _ (p : ℕ → Bool) (xs : List ℕ) (r : Option ℕ) (found : r ≡ cond (ltb (position_or_len p xs) (length xs)) (Some (position_or_len p xs)) None) where
  pub first-of : (i : ℕ) → r ≡ Some i → take i xs ≡ before_first p xs
  first-of i h = ap (λ n. take n xs) (sym (some-of _ _ i (sym h ∙ found)))

  pub others-of : (i : ℕ) → r ≡ Some i → take (length xs - (i + 1)) (drop (i + 1) xs) ≡ after_first p xs
  others-of i h = let e : position_or_len p xs ≡ i = some-of _ _ i (sym h ∙ found) in grind (arith, common_steps)

  pub all-first : r ≡ None → xs ≡ before_first p xs
  all-first h = let e : ltb (position_or_len p xs) (length xs) ≡ false = none-of _ _ (sym h ∙ found) in grind (arith, common_steps)

  pub none-other : r ≡ None → [] ≡ after_first p xs
  none-other h = let e : ltb (position_or_len p xs) (length xs) ≡ false = none-of _ _ (sym h ∙ found) in grind (arith, common_steps)

pub not-utf8 : (bytes : List ℕ) → (IsUtf8 bytes → ⊥) → false ≡ is_utf8 bytes
not-utf8 bytes h = by (is_utf8 bytes) refl where
  by : (b : Bool) → is_utf8 bytes ≡ b → false ≡ is_utf8 bytes
  by true e = absurd (h (IsUtf8-from_is_utf8 bytes e))
  by false e = sym e

abbrev feed : ℕ → Bool
feed byte = byte == 10

first-more : (byte : ℕ) (bytes : List ℕ) → (byte == 10) ≡ false → before_first feed (byte ∷ bytes) ≡ byte ∷ before_first feed bytes
first-more byte bytes e =
    let n : ℕ = position_or_len feed bytes in
    let more : position_or_len feed (byte ∷ bytes) ≡ suc (position_or_len feed bytes) =
    ap (λ b. cond (not b) (1 + position_or_len feed bytes) 0) e ∙ omega arith in
    ap (λ m. take m (byte ∷ bytes)) more

others-more : (byte : ℕ) (bytes : List ℕ) → (byte == 10) ≡ false → after_first feed (byte ∷ bytes) ≡ after_first feed bytes
others-more byte bytes e =
    let more : position_or_len feed (byte ∷ bytes) ≡ suc (position_or_len feed bytes) =
    ap (λ b. cond (not b) (1 + position_or_len feed bytes) 0) e ∙ omega arith in
    let at : position_or_len feed (byte ∷ bytes) + 1 ≡ suc (position_or_len feed bytes + 1) = omega (arith, more) in
    ap (λ m. drop m (byte ∷ bytes)) at

-- the lines of a text that has some
lines-step : (byte : ℕ) (bytes : List ℕ) (b : Bool) → (byte == 10) ≡ b → lines bytes ≡ before_first feed bytes ∷ lines (after_first feed bytes)
    → lines (byte ∷ bytes) ≡ before_first feed (byte ∷ bytes) ∷ lines (after_first feed (byte ∷ bytes))
unfolding lines
lines-step byte bytes true e later =
    let first : before_first feed (byte ∷ bytes) ≡ [] = grind (arith, common_steps) in
    let others : after_first feed (byte ∷ bytes) ≡ bytes = grind (arith, common_steps) in
    ap (λ b. cond b ([] ∷ lines bytes) (longer byte (lines bytes))) e ∙ ap (λ l. l ∷ lines bytes) (sym first) ∙ ap (λ l. before_first feed (byte ∷ bytes) ∷ lines l) (sym others)
lines-step byte bytes false e later =
    let first : before_first feed (byte ∷ bytes) ≡ byte ∷ before_first feed bytes = first-more byte bytes e in
    let others : after_first feed (byte ∷ bytes) ≡ after_first feed bytes = others-more byte bytes e in
    ap (λ b. cond b ([] ∷ lines bytes) (longer byte (lines bytes))) e ∙ ap (longer byte) later ∙ ap (λ l. l ∷ lines (after_first feed bytes)) (sym first)
    ∙ ap (λ l. before_first feed (byte ∷ bytes) ∷ lines l) (sym others)

lines-last : (byte : ℕ) (b : Bool) → (byte == 10) ≡ b → lines (byte ∷ []) ≡ before_first feed (byte ∷ []) ∷ lines (after_first feed (byte ∷ []))
unfolding lines
lines-last byte true e =
    let first : before_first feed (byte ∷ []) ≡ [] = grind (arith, common_steps) in
    let others : after_first feed (byte ∷ []) ≡ [] = grind (arith, common_steps) in
    ap (λ b. cond b ([] ∷ []) ((byte ∷ []) ∷ [])) e ∙ ap (λ l. l ∷ []) (sym first) ∙ ap (λ l. before_first feed (byte ∷ []) ∷ lines l) (sym others)
lines-last byte false e =
    let first : before_first feed (byte ∷ []) ≡ byte ∷ [] = grind (arith, common_steps) in
    let others : after_first feed (byte ∷ []) ≡ [] = grind (arith, common_steps) in
    ap (λ b. cond b ([] ∷ []) ((byte ∷ []) ∷ [])) e ∙ ap (λ l. l ∷ []) (sym first) ∙ ap (λ l. before_first feed (byte ∷ []) ∷ lines l) (sym others)

pub lines-first : (byte : ℕ) (bytes : List ℕ) → lines (byte ∷ bytes) ≡ before_first (λ b. b == 10) (byte ∷ bytes) ∷ lines (after_first (λ b. b == 10) (byte ∷ bytes))
lines-first byte [] = lines-last byte (byte == 10) refl
lines-first byte (next ∷ rest) = lines-step byte (next ∷ rest) (byte == 10) refl (lines-first next rest)

pub after-shorter : (xs : List ℕ) → 0 < length xs → length (after_first (λ b. b == 10) xs) < length xs
after-shorter xs h = grind (arith, common_steps)

pub lines-some : (bytes : List ℕ) → 0 < length bytes → lines bytes ≡ before_first (λ b. b == 10) bytes ∷ lines (after_first (λ b. b == 10) bytes)
lines-some [] h = absurd (omega (arith, h))
lines-some (byte ∷ bytes) h = lines-first byte bytes

pub lines-none : (bytes : List ℕ) → length bytes ≡ 0 → lines bytes ≡ []
unfolding lines
lines-none [] h = refl
lines-none (byte ∷ bytes) h = absurd (omega (arith, h))
