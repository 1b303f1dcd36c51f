-- Where the first unit isn't ASCII, what is read there isn't either.
use Rattle.std.proofs.Common.{◌≡◌, ℕ, zero, suc, ◌<◌, ◌≤◌, ◌⊎◌, inl, inr, List, [], ◌∷◌, length, get_or, take, arith}
use Rattle.std.proofs.lemmas.Nat.{and_le_l}
use Rattle.std.specs.Prelude.{slice_index_or}
use Rattle.seg_text.specs.Decoding.{rows, trail, Fits, ReadsUtf8, read_utf8, read_utf16, scalar_of, Ranges, Range}
use Rattle.seg_text.specs.Lemmas.Rising.{read_utf8-reader}
use Rattle.seg_text.specs.Lemmas.Utf16Stable.{Start, start, pair, single}
use Rattle.seg_text.proofs.Utf8.{read_utf8-of}
use Rattle.seg_text.proofs.Utf16.{single-at}

-- a sequence of this row is above ASCII, where its first byte is
abbrev IsWide : Ranges → Type 0
IsWide row = (bytes : List ℕ) → Fits row bytes → length bytes ≡ length row → 0x80 ≤ get_or bytes 0 0 → 0x80 ≤ scalar_of bytes

wide-one : (last : ℕ) → last < 0x80 → IsWide ((0, last) ∷ [])
wide-one last low [] fits whole wide = absurd (omega arith)
wide-one last low (a ∷ bytes) fits whole wide = absurd (omega (arith, fits.1))

wide-two : (first : Range) → 0xC2 ≤ first.0 → IsWide (first ∷ trail ∷ [])
unfolding scalar_of
wide-two first high [] fits whole wide = absurd (omega arith)
wide-two first high (a ∷ []) fits whole wide = absurd (omega arith)
wide-two first high (a ∷ b ∷ []) fits whole wide = omega (arith, fits.0)
wide-two first high (a ∷ b ∷ c ∷ bytes) fits whole wide = absurd (omega arith)

wide-three : (first second : Range) → (0xE1 ≤ first.0) ⊎ (0xA0 ≤ second.0) → IsWide (first ∷ second ∷ trail ∷ [])
unfolding scalar_of
wide-three first second high [] fits whole wide = absurd (omega arith)
wide-three first second high (a ∷ []) fits whole wide = absurd (omega arith)
wide-three first second high (a ∷ b ∷ []) fits whole wide = absurd (omega arith)
wide-three first second (inl high) (a ∷ b ∷ c ∷ []) fits whole wide = omega (arith, fits.0)
wide-three first second (inr high) (a ∷ b ∷ c ∷ []) fits whole wide = omega (arith, fits.2.0)
wide-three first second high (a ∷ b ∷ c ∷ d ∷ bytes) fits whole wide = absurd (omega arith)

wide-four : (first second : Range) → (0xF1 ≤ first.0) ⊎ (0x90 ≤ second.0) → IsWide (first ∷ second ∷ trail ∷ trail ∷ [])
unfolding scalar_of
wide-four first second high [] fits whole wide = absurd (omega arith)
wide-four first second high (a ∷ []) fits whole wide = absurd (omega arith)
wide-four first second high (a ∷ b ∷ []) fits whole wide = absurd (omega arith)
wide-four first second high (a ∷ b ∷ c ∷ []) fits whole wide = absurd (omega arith)
wide-four first second (inl high) (a ∷ b ∷ c ∷ d ∷ bytes) fits whole wide = omega (arith, fits.0)
wide-four first second (inr high) (a ∷ b ∷ c ∷ d ∷ bytes) fits whole wide = omega (arith, fits.2.0)

abbrev AreWide : List Ranges → Type 0
AreWide [] = Unit {0}
AreWide (row ∷ table) = IsWide row × AreWide table

wide-at : (table : List Ranges) (k : ℕ) (row : Ranges) → AreWide table → k < length table → slice_index_or table k row ≡ row → IsWide row
wide-at [] k row all here is = absurd (omega arith)
wide-at (first ∷ table) zero row all here is = rw is at all.0
wide-at (first ∷ table) (suc k) row all here is = wide-at table k row all.1 (omega arith) is

wide-rows : AreWide rows
wide-rows = (
  wide-one 0x7F (omega arith),
  (
    wide-two (0xC2, 0xDF) (omega arith),
    (
      wide-three (0xE0, 0xE0) (0xA0, 0xBF) (inr (omega arith)),
      (
        wide-three (0xE1, 0xEC) trail (inl (omega arith)),
        (
          wide-three (0xED, 0xED) (0x80, 0x9F) (inl (omega arith)),
          (
            wide-three (0xEE, 0xEF) trail (inl (omega arith)),
            (
              wide-four (0xF0, 0xF0) (0x90, 0xBF) (inr (omega arith)),
              (
                wide-four (0xF1, 0xF3) trail (inl (omega arith)),
                (
                  wide-four (0xF4, 0xF4) (0x80, 0x8F) (inl (omega arith)),
                  tt,
                ),
              ),
            ),
          ),
        ),
      ),
    ),
  ),
)

pub utf8-wide : (bytes : List ℕ) → 0x80 ≤ get_or bytes 0 0 → 0x80 ≤ (read_utf8 bytes).1
utf8-wide [] wide = absurd (omega arith)
utf8-wide (byte ∷ bytes) wide = on (read_utf8 (byte ∷ bytes)).0 (read_utf8 (byte ∷ bytes)).1 (read_utf8-reader.some byte bytes) (read_utf8-of.reads byte bytes)
  where
    on : (taken code_point : ℕ) → 0 < taken → ReadsUtf8 (byte ∷ bytes) taken code_point → 0x80 ≤ code_point
    on zero code_point some read = absurd (omega arith)
    on (suc taken) code_point some (inl read) =
        let (row, among, fits, whole) = read.well_formed in
        omega (arith, read.scalar, wide-at rows among.0 row wide-rows among.1 among.2 (byte ∷ take taken bytes) fits whole wide)
    on (suc taken) code_point some (inr read) = omega (arith, read.replacement)

pub utf16-wide : (units : List ℕ) → 0x80 ≤ get_or units 0 0 → 0x80 ≤ (read_utf16 units).1
unfolding read_utf16
utf16-wide [] wide = absurd (omega arith)
utf16-wide (unit ∷ []) wide = wide
utf16-wide (unit ∷ next ∷ units) wide = on (start unit next units)
  where
    on : Start unit next units → 0x80 ≤ (read_utf16 (unit ∷ next ∷ units)).1
    on (pair is_high is_low found) = rw found (omega arith)
    on (single none found) = rw found wide

pub utf16-ascii : (units : List ℕ) → 0 < length units → get_or units 0 0 < 0x80 → (1, get_or units 0 0) ≡ read_utf16 units
utf16-ascii units some ascii = single-at units some (λ high. absurd (omega (arith, high, and_le_l (get_or units 0 0) 0xFC00)))
