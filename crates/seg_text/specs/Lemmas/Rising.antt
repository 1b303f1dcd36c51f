-- The reader of each encoding, and so the law that the items of its cursor rise.
use Rattle.std.proofs.Common.{◌≡◌, ℕ, suc, ◌+◌, ◌<◌, ◌≤◌, Bool, true, false, nat_le, nat_lt, List, [], ◌∷◌, length, refl, arith}
use Rattle.std.proofs.lemmas.Bool.{ltb-true}
use Rattle.std.specs.Prelude.{◌&&◌, ◌==◌, find, bit_and, if◌then◌else◌}
use Rattle.std.specs.Option.{option_map_or}
use Rattle.seg_text.specs.Items.{IsRising, Reading}
use Rattle.seg_text.specs.Decoding.{read_latin1, latin1_items, rows, fitting, read_row, read_utf8, utf8_items, Ranges, pair_of, read_utf16, utf16_items}
use Rattle.seg_text.specs.Lemmas.Readers.{IsReader, items_by-rises}

pub read_latin1-reader : IsReader read_latin1
read_latin1-reader = record { some = λ unit units. omega arith; within = λ unit units. omega arith }

pub latin1_items-rises : (place : ℕ) (bytes : List ℕ) → IsRising (latin1_items place bytes) (place + length bytes)
unfolding latin1_items
latin1_items-rises place bytes = items_by-rises read_latin1 read_latin1-reader place bytes

fitting-within : (row : Ranges) (bytes : List ℕ) → fitting row bytes ≤ length bytes
unfolding fitting
fitting-within [] bytes = omega arith
fitting-within (range ∷ row) [] = omega arith
fitting-within (range ∷ row) (byte ∷ bytes) =
    either (nat_le range.0 byte && nat_le byte range.1) (fitting row bytes) (fitting-within row bytes)
  where
    either : (b : Bool) (n : ℕ) → n ≤ length bytes → (if b then suc n else 0) ≤ suc (length bytes)
    either true n few = omega arith
    either false n few = omega arith

-- what is read by the row that is found takes one or more bytes, of those that there are
read_found-bounds : (table : List Ranges) (bytes : List ℕ) → 0 < length bytes
    → let found = option_map_or (λ row. read_row row bytes) (find (λ row. nat_lt 0 (fitting row bytes)) table) (1, 0xFFFD) in
    (0 < found.0) × (found.0 ≤ length bytes)
unfolding read_row
read_found-bounds [] bytes some = (omega arith, omega arith)
read_found-bounds (row ∷ table) bytes some = on (nat_lt 0 (fitting row bytes)) refl (read_found-bounds table bytes some)
  where
    on : (b : Bool) → nat_lt 0 (fitting row bytes) ≡ b
        → (let found = option_map_or (λ row. read_row row bytes) (find (λ row. nat_lt 0 (fitting row bytes)) table) (1, 0xFFFD) in
        (0 < found.0) × (found.0 ≤ length bytes))
        → let found = option_map_or (λ row. read_row row bytes) (find (λ row. nat_lt 0 (fitting row bytes)) (row ∷ table)) (1, 0xFFFD) in
        (0 < found.0) × (found.0 ≤ length bytes)
    on true test more = rw test (ltb-true _ _ test, fitting-within row bytes)
    on false test more = rw test more

pub read_utf8-reader : IsReader read_utf8
unfolding read_utf8
read_utf8-reader = record {
  some = λ unit units. (read_found-bounds rows (unit ∷ units) (omega arith)).0;
  within = λ unit units. (read_found-bounds rows (unit ∷ units) (omega arith)).1;
}

pub utf8_items-rises : (place : ℕ) (bytes : List ℕ) → IsRising (utf8_items place bytes) (place + length bytes)
unfolding utf8_items
utf8_items-rises place bytes = items_by-rises read_utf8 read_utf8-reader place bytes

-- what is read takes one unit, or two where there are two
read_utf16-bounds : (unit : ℕ) (units : List ℕ)
    → (0 < (read_utf16 (unit ∷ units)).0) × ((read_utf16 (unit ∷ units)).0 ≤ suc (length units))
unfolding read_utf16
read_utf16-bounds unit [] = (omega arith, omega arith)
read_utf16-bounds unit (next ∷ units) = either ((bit_and unit 0xFC00 == 0xD800) && (bit_and next 0xFC00 == 0xDC00))
  where
    either : (b : Bool) → let found : Reading = if b then (2, pair_of unit next) else (1, unit) in
        (0 < found.0) × (found.0 ≤ suc (suc (length units)))
    either true = (omega arith, omega arith)
    either false = (omega arith, omega arith)

pub read_utf16-reader : IsReader read_utf16
read_utf16-reader = record {
  some = λ unit units. (read_utf16-bounds unit units).0;
  within = λ unit units. (read_utf16-bounds unit units).1;
}

pub utf16_items-rises : (place : ℕ) (units : List ℕ) → IsRising (utf16_items place units) (place + length units)
unfolding utf16_items
utf16_items-rises place units = items_by-rises read_utf16 read_utf16-reader place units
