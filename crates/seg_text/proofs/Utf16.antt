-- UTF-16's reader.
use Rattle.std.proofs.Common.{◌≡◌, ℕ, suc, ◌<◌, ◌≤◌, inl, inr, List, [], ◌∷◌, length, get_or, refl, ap, sym, arith}
use Rattle.seg_text.specs.Decoding.{IsHighSurrogate, IsLowSurrogate, IsPair, ReadsUtf16, pair_of, read_utf16}
use Rattle.seg_text.specs.Lemmas.Rising.{read_utf16-reader}
use Rattle.seg_text.proofs.Items.{IsReaderOf}
use Rattle.seg_text.specs.Lemmas.Utf16Stable.{Start, start, pair, single}

-- the units of a pair are the first two
same-pair : (unit next high low : ℕ) (units : List ℕ) → IsPair (unit ∷ next ∷ units) high low → (unit ≡ high) × (next ≡ low)
same-pair unit next high low units is = let two : unit ∷ next ∷ [] ≡ high ∷ low ∷ [] = is.two in (cc, cc)

reads : (unit : ℕ) (units : List ℕ) → ReadsUtf16 (unit ∷ units) (read_utf16 (unit ∷ units)).0 (read_utf16 (unit ∷ units)).1
unfolding read_utf16
reads unit [] = inr (record { no_pair = λ high low is. absurd (omega (arith, ap length is.two)); one = refl; own = refl })
reads unit (next ∷ units) = on (start unit next units)
  where
    on : Start unit next units
        → ReadsUtf16 (unit ∷ next ∷ units) (read_utf16 (unit ∷ next ∷ units)).0 (read_utf16 (unit ∷ next ∷ units)).1
    on (pair is_high is_low found) = rw found (inl (record {
      high = unit;
      low = next;
      pair = record { two = refl; is_high = is_high; is_low = is_low };
      both = refl;
      scalar = refl;
    }))
    on (single none found) = rw found (inr (record {
      no_pair = λ high low is.
          let same = same-pair unit next high low units is in none (rw same.0 is.is_high) (rw same.1 is.is_low);
      one = refl;
      own = refl;
    }))

only : (unit : ℕ) (units : List ℕ) (taken code_point : ℕ) → 0 < taken → taken ≤ suc (length units)
    → ReadsUtf16 (unit ∷ units) taken code_point → (taken, code_point) ≡ read_utf16 (unit ∷ units)
unfolding read_utf16
only unit [] taken code_point some within (inl read) = absurd (omega (arith, ap length read.pair.two))
only unit [] taken code_point some within (inr read) = let own = read.own in let one = read.one in cc
only unit (next ∷ units) taken code_point some within (inl read) = on (start unit next units) (same-pair unit next read.high read.low units read.pair)
  where
    on : Start unit next units → (unit ≡ read.high) × (next ≡ read.low) → (taken, code_point) ≡ read_utf16 (unit ∷ next ∷ units)
    on (pair is_high is_low found) (high, low) = rw (found, read.both, read.scalar, high, low) refl
    on (single none found) (high, low) = absurd (none (rw high read.pair.is_high) (rw low read.pair.is_low))
only unit (next ∷ units) taken code_point some within (inr read) = on (start unit next units)
  where
    on : Start unit next units → (taken, code_point) ≡ read_utf16 (unit ∷ next ∷ units)
    on (pair is_high is_low found) = absurd (read.no_pair unit next (record { two = refl; is_high = is_high; is_low = is_low }))
    on (single none found) = let own = read.own in let one = read.one in rw found (cc)

pub read_utf16-of : IsReaderOf ReadsUtf16 read_utf16
read_utf16-of = record { reader = read_utf16-reader; reads = reads; only = only }

-- a unit that begins no pair
pub single-at : (units : List ℕ) → 0 < length units → (IsHighSurrogate (get_or units 0 0) → ⊥) → (1, get_or units 0 0) ≡ read_utf16 units
unfolding read_utf16
single-at [] some other = absurd (omega arith)
single-at (unit ∷ []) some other = refl
single-at (unit ∷ next ∷ units) some other = by (start unit next units)
  where
    by : Start unit next units → (1, unit) ≡ read_utf16 (unit ∷ next ∷ units)
    by (pair is_high is_low found) = absurd (other is_high)
    by (single none found) = sym found

-- a high surrogate that no low one comes after
pub lone-at : (units : List ℕ) → IsHighSurrogate (get_or units 0 0) → (1 < length units → IsLowSurrogate (get_or units 1 0) → ⊥)
    → (1, get_or units 0 0) ≡ read_utf16 units
unfolding read_utf16
lone-at [] high other = refl
lone-at (unit ∷ []) high other = refl
lone-at (unit ∷ next ∷ units) high other = by (start unit next units)
  where
    by : Start unit next units → (1, unit) ≡ read_utf16 (unit ∷ next ∷ units)
    by (pair is_high is_low found) = absurd (other (omega arith) is_low)
    by (single none found) = sym found

-- a pair
pub pair-at : (units : List ℕ) → 1 < length units → IsHighSurrogate (get_or units 0 0) → IsLowSurrogate (get_or units 1 0)
    → (2, pair_of (get_or units 0 0) (get_or units 1 0)) ≡ read_utf16 units
pair-at [] two high low = absurd (omega arith)
pair-at (unit ∷ []) two high low = absurd (omega arith)
pair-at (unit ∷ next ∷ units) two high low = by (start unit next units)
  where
    by : Start unit next units → (2, pair_of unit next) ≡ read_utf16 (unit ∷ next ∷ units)
    by (pair is_high is_low found) = sym found
    by (single none found) = absurd (none high low)
