-- What UTF-16's reader reads of an item stays the same where the units after the item are cut off.
use Rattle.std.proofs.Common.{◌≡◌, ℕ, zero, suc, ◌≤◌, ◌⊎◌, inl, inr, List, [], ◌∷◌, take, refl, sym, arith}
use Rattle.std.specs.Prelude.{◌==◌, bit_and}
use Rattle.std.proofs.lemmas.Bool.{eq-eqb, ne_eqb, cases_eq, and_from, and_left, and_right}
use Rattle.seg_text.specs.Decoding.{IsHighSurrogate, IsLowSurrogate, pair_of, read_utf16}
use Rattle.seg_text.specs.Lemmas.Rising.{read_utf16-reader}
use Rattle.seg_text.specs.Lemmas.Readers.{IsStable}

-- a pair stands at the start, or none does
pub data Start (unit next : ℕ) (units : List ℕ) : Type 0 where
  pair : IsHighSurrogate unit → IsLowSurrogate next → read_utf16 (unit ∷ next ∷ units) ≡ (2, pair_of unit next) → Start unit next units
  single : (IsHighSurrogate unit → IsLowSurrogate next → ⊥) → read_utf16 (unit ∷ next ∷ units) ≡ (1, unit) → Start unit next units

pub start : (unit next : ℕ) (units : List ℕ) → Start unit next units
unfolding read_utf16
start unit next units = on (cases_eq (bit_and unit 0xFC00) 0xD800) (cases_eq (bit_and next 0xFC00) 0xDC00)
  where
    on : IsHighSurrogate unit ⊎ (IsHighSurrogate unit → ⊥) → IsLowSurrogate next ⊎ (IsLowSurrogate next → ⊥) → Start unit next units
    on (inl high) (inl low) =
        pair high low
        (rw (and_from (bit_and unit 0xFC00 == 0xD800) (bit_and next 0xFC00 == 0xDC00) (eq-eqb _ _ high) (eq-eqb _ _ low)) refl)
    on (inr high) low =
        single (λ is other. high is)
        (rw (and_left (bit_and unit 0xFC00 == 0xD800) (bit_and next 0xFC00 == 0xDC00) (ne_eqb _ _ high)) refl)
    on (inl high) (inr low) =
        single (λ is other. low other)
        (rw (and_right (bit_and unit 0xFC00 == 0xD800) (bit_and next 0xFC00 == 0xDC00) (ne_eqb _ _ low)) refl)

stable : (most unit : ℕ) (units : List ℕ) → (read_utf16 (unit ∷ units)).0 ≤ most
    → read_utf16 (take most (unit ∷ units)) ≡ read_utf16 (unit ∷ units)
unfolding read_utf16
stable zero unit units few = let some = read_utf16-reader.some unit units in absurd (omega arith)
stable (suc zero) unit [] few = refl
stable (suc zero) unit (next ∷ units) few = on (start unit next units)
  where
    on : Start unit next units → (1, unit) ≡ read_utf16 (unit ∷ next ∷ units)
    on (pair is_high is_low found) = absurd (omega (arith, rw found at few))
    on (single none found) = sym found
stable (suc (suc most)) unit [] few = refl
stable (suc (suc most)) unit (next ∷ units) few = refl

pub read_utf16-stable : IsStable read_utf16
read_utf16-stable = record { reader = read_utf16-reader; stable = stable }
