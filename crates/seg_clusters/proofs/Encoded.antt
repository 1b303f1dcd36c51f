-- The units of a code point are read alone, in each encoding.
use Rattle.std.proofs.Common.{◌≡◌, ℕ, suc, ◌+◌, ◌-◌, ◌/◌, ◌%◌, ◌<◌, ◌≤◌, ◌⊎◌, inl, inr, Bool, true, ◌&&◌, nat_le, nat_lt, bit_and, List, [], ◌∷◌, ◌++◌, length, refl, ap, ◌∙◌, arith}
use Rattle.std.specs.Prelude.{Some, find}
use Rattle.std.specs.Char.{IsScalar, encode_utf8}
use Rattle.std.specs.Char.Escape.{encode_utf16}
use Rattle.std.specs.Option.{option_map_or}
use Rattle.std.proofs.Math.Utf8.{scalar_cases}
use Rattle.std.proofs.lemmas.Bool.{and_parts, cases_lt, cond_both, le-ltb, leb-true, lt-ltb, ltb-true}
use Rattle.std.proofs.lemmas.Grind.{and_high_numeral, and_numeral}
use Rattle.std.proofs.str.Laws.{one, two, three, four}
use Rattle.seg_text.specs.Decoding.{read_latin1, Ranges, rows, fitting, read_row, read_utf8, IsHighSurrogate, IsLowSurrogate, pair_of, read_utf16}
use Rattle.seg_text.specs.Lemmas.Utf16Stable.{Start, start, pair, single}
use Rattle.seg_text.proofs.Str.{read_utf8-encode}
use Rattle.seg_clusters.proofs.SplitItems.{IsApart}

-- Latin-1

pub latin1-apart : (c : ℕ) → IsApart read_latin1 (c ∷ []) c
latin1-apart c = record { some = omega arith; whole = λ units. refl; apart = λ unit before units. omega arith }

-- UTF-8

-- no byte that goes on a sequence
abbrev IsLead : ℕ → Type 0
IsLead byte = (byte < 0x80) ⊎ (0xC0 ≤ byte)

-- the first of a code point's bytes is none
data Led (bytes : List ℕ) : Type 0 where
  led : (byte : ℕ) (others : List ℕ) → bytes ≡ byte ∷ others → IsLead byte → Led bytes

encoded-led : (c : ℕ) → Led (encode_utf8 c)
encoded-led c = on (cases_lt c 0x80) (cases_lt c 0x800) (cases_lt c 0x1_0000)
  where
    on : (c < 0x80) ⊎ (0x80 ≤ c) → (c < 0x800) ⊎ (0x800 ≤ c) → (c < 0x1_0000) ⊎ (0x1_0000 ≤ c) → Led (encode_utf8 c)
    on (inl low) _ _ = led c [] (one c low) (inl low)
    on (inr high) (inl low) _ = led _ _ (two c high low) (inr (omega arith))
    on (inr _) (inr high) (inl low) = led _ _ (three c high low) (inr (omega arith))
    on (inr _) (inr _) (inr high) = led _ _ (four c high) (inr (omega arith))

-- each range of the row has only bytes that go on a sequence
abbrev are_trails : Ranges → Bool
are_trails [] = true
are_trails (range ∷ row) = (nat_le 0x80 range.0 && nat_lt range.1 0xC0) && are_trails row

abbrev has_trails : Ranges → Bool
has_trails [] = true
has_trails (range ∷ row) = are_trails row

abbrev have_trails : List Ranges → Bool
have_trails [] = true
have_trails (row ∷ table) = has_trails row && have_trails table

trails-before : (row : Ranges) (before : List ℕ) (byte : ℕ) (bytes : List ℕ) → are_trails row ≡ true → IsLead byte → fitting row (before ++ byte ∷ bytes) ≤ length before
unfolding fitting
trails-before [] before byte bytes ok lead = omega arith
trails-before (range ∷ row) [] byte bytes ok lead =
    let bounds = and_parts (nat_le 0x80 range.0) (nat_lt range.1 0xC0) (and_parts (nat_le 0x80 range.0 && nat_lt range.1 0xC0) (are_trails row) ok).0 in
    let low : 0x80 ≤ range.0 = leb-true 0x80 range.0 bounds.0 in
    let high : range.1 < 0xC0 = ltb-true range.1 0xC0 bounds.1 in
    cond_both (nat_le range.0 byte && nat_le byte range.1) (suc (fitting row bytes)) 0 (λ n. n ≤ 0)
    (λ here.
    let in_range = and_parts (nat_le range.0 byte) (nat_le byte range.1) here in
    let from : range.0 ≤ byte = leb-true range.0 byte in_range.0 in
    let to : byte ≤ range.1 = leb-true byte range.1 in_range.1 in
    absurd (elim lead [ inl under ↦ omega arith | inr over ↦ omega arith ])) (λ _. omega arith)
trails-before (range ∷ row) (first ∷ before) byte bytes ok lead =
    let rest = trails-before row before byte bytes (and_parts _ (are_trails row) ok).1 lead in
    cond_both (nat_le range.0 first && nat_le first range.1) (suc (fitting row (before ++ byte ∷ bytes))) 0 (λ n. n ≤ suc (length before)) (λ _. omega (arith, rest)) (λ _. omega arith)

row-before : (row : Ranges) (first : ℕ) (before : List ℕ) (byte : ℕ) (bytes : List ℕ) → has_trails row ≡ true → IsLead byte
    → fitting row (first ∷ (before ++ byte ∷ bytes)) ≤ suc (length before)
unfolding fitting
row-before [] first before byte bytes ok lead = omega arith
row-before (range ∷ row) first before byte bytes ok lead =
    let rest = trails-before row before byte bytes ok lead in
    cond_both (nat_le range.0 first && nat_le first range.1) (suc (fitting row (before ++ byte ∷ bytes))) 0 (λ n. n ≤ suc (length before)) (λ _. omega (arith, rest)) (λ _. omega arith)

table-before : (table : List Ranges) (first : ℕ) (before : List ℕ) (byte : ℕ) (bytes : List ℕ) → have_trails table ≡ true → IsLead byte
    → let all = first ∷ (before ++ byte ∷ bytes) in
    (option_map_or (λ row. read_row row all) (find (λ row. nat_lt 0 (fitting row all)) table) (1, 0xFFFD)).0 ≤ suc (length before)
unfolding read_row
table-before [] first before byte bytes ok lead = omega arith
table-before (row ∷ table) first before byte bytes ok lead =
    let all = first ∷ (before ++ byte ∷ bytes) in
    let parts = and_parts (has_trails row) (have_trails table) ok in
    cond_both (nat_lt 0 (fitting row all)) (Some row) (find (λ row. nat_lt 0 (fitting row all)) table)
    (λ found. (option_map_or (λ row. read_row row all) found (1, 0xFFFD)).0 ≤ suc (length before))
    (λ _. row-before row first before byte bytes parts.0 lead) (λ _. table-before table first before byte bytes parts.1 lead)

read-before : (first : ℕ) (before : List ℕ) (byte : ℕ) (bytes : List ℕ) → IsLead byte → (read_utf8 (first ∷ (before ++ byte ∷ bytes))).0 ≤ suc (length before)
unfolding read_utf8
read-before first before byte bytes lead = table-before rows first before byte bytes refl lead

led-apart : (bytes : List ℕ) → Led bytes → (first : ℕ) (before units : List ℕ) → (read_utf8 (first ∷ (before ++ (bytes ++ units)))).0 ≤ suc (length before)
led-apart bytes (led byte others is lead) first before units =
    rw is (read-before first before byte (others ++ units) lead)

led-some : (bytes : List ℕ) → Led bytes → 0 < length bytes
led-some bytes (led byte others is lead) = rw is (omega arith)

pub utf8-apart : (c : ℕ) → IsScalar c → IsApart read_utf8 (encode_utf8 c) c
utf8-apart c is = record {
  some = led-some (encode_utf8 c) (encoded-led c);
  whole = λ units. read_utf8-encode c units is;
  apart = led-apart (encode_utf8 c) (encoded-led c);
}

-- UTF-16

-- the upper six bits of a unit
upper : (unit : ℕ) → unit < 0x1_0000 → bit_and unit 0xFC00 + unit % 0x400 ≡ unit
upper unit small = and_high_numeral unit 0xFBFF refl small

-- the lower ten bits of a unit
lower : (unit : ℕ) → bit_and unit 0x3FF ≡ unit % 0x400
lower unit = and_numeral unit 0x3FE refl

no-low : (unit : ℕ) → unit < 0x1_0000 → (unit < 0xDC00) ⊎ (0xE000 ≤ unit) → IsLowSurrogate unit → ⊥
no-low unit small (inl under) is = let bits = upper unit small in absurd (omega arith)
no-low unit small (inr over) is = let bits = upper unit small in absurd (omega arith)

no-high : (unit : ℕ) → unit < 0x1_0000 → (unit < 0xD800) ⊎ (0xDC00 ≤ unit) → IsHighSurrogate unit → ⊥
no-high unit small (inl under) is = let bits = upper unit small in absurd (omega arith)
no-high unit small (inr over) is = let bits = upper unit small in absurd (omega arith)

-- a unit that begins no pair is read alone
alone : (unit : ℕ) (units : List ℕ) → (IsHighSurrogate unit → ⊥) → read_utf16 (unit ∷ units) ≡ (1, unit)
unfolding read_utf16
alone unit [] other = refl
alone unit (next ∷ units) other = on (start unit next units)
  where
    on : Start unit next units → read_utf16 (unit ∷ next ∷ units) ≡ (1, unit)
    on (pair is_high is_low found) = absurd (other is_high)
    on (single none found) = found

-- a pair
both : (high low : ℕ) (units : List ℕ) → IsHighSurrogate high → IsLowSurrogate low → read_utf16 (high ∷ low ∷ units) ≡ (2, pair_of high low)
both high low units first second = on (start high low units)
  where
    on : Start high low units → read_utf16 (high ∷ low ∷ units) ≡ (2, pair_of high low)
    on (pair is_high is_low found) = found
    on (single none found) = absurd (none first second)

-- nothing reaches into what begins with a unit that ends no pair
apart-from : (next : ℕ) → (IsLowSurrogate next → ⊥) → (unit : ℕ) (before units : List ℕ) → (read_utf16 (unit ∷ (before ++ next ∷ units))).0 ≤ suc (length before)
apart-from next other unit [] units = on (start unit next units)
  where
    on : Start unit next units → (read_utf16 (unit ∷ next ∷ units)).0 ≤ 1
    on (pair is_high is_low found) = absurd (other is_low)
    on (single none found) = rw found (omega arith)
apart-from next other unit (second ∷ before) units = on (start unit second (before ++ next ∷ units))
  where
    on : Start unit second (before ++ next ∷ units) → (read_utf16 (unit ∷ second ∷ (before ++ next ∷ units))).0 ≤ suc (suc (length before))
    on (pair is_high is_low found) = rw found (omega arith)
    on (single none found) = rw found (omega arith)

one-unit : (c : ℕ) → c < 0x1_0000 → (c < 0xD800) ⊎ (0xE000 ≤ c) → IsApart read_utf16 (c ∷ []) c
one-unit c small side = record {
  some = omega arith;
  whole = λ units. alone c units (no-high c small (elim side [ inl under ↦ inl under | inr over ↦ inr (omega arith) ]));
  apart = apart-from c (no-low c small (elim side [ inl under ↦ inl (omega arith) | inr over ↦ inr over ]));
}

two-units : (c high low : ℕ) → 0x1_0000 ≤ c → c < 0x11_0000 → high ≡ 0xD800 + (c - 0x1_0000) / 0x400 → low ≡ 0xDC00 + (c - 0x1_0000) % 0x400
    → IsApart read_utf16 (high ∷ low ∷ []) c
two-units c high low above below first second =
    let high_bits = upper high (omega arith) in
    let low_bits = upper low (omega arith) in
    let is_high : IsHighSurrogate high = omega arith in
    let is_low : IsLowSurrogate low = omega arith in
    let high_rest = lower high in
    let low_rest = lower low in
    let sum : pair_of high low ≡ c = omega arith in
    record {
      some = omega arith;
      whole = λ units. both high low units is_high is_low ∙ ap (λ found. (2, found)) sum;
      apart = λ unit before units. apart-from high (λ other. absurd (omega arith)) unit before (low ∷ units);
    }

pub utf16-apart : (c : ℕ) → IsScalar c → IsApart read_utf16 (encode_utf16 c) c
utf16-apart c is = on (cases_lt c 0x1_0000) (scalar_cases c is)
  where
    on : (c < 0x1_0000) ⊎ (0x1_0000 ≤ c) → (c < 0xD800) ⊎ ((0xE000 ≤ c) × (c < 0x11_0000)) → IsApart read_utf16 (encode_utf16 c) c
    on (inl small) (inl under) = rw (lt-ltb c 0x1_0000 small) (one-unit c small (inl under))
    on (inl small) (inr over) = rw (lt-ltb c 0x1_0000 small) (one-unit c small (inr over.0))
    on (inr large) (inl under) = absurd (omega arith)
    on (inr large) (inr over) = rw (le-ltb c 0x1_0000 large) (two-units c _ _ large over.1 refl refl)
