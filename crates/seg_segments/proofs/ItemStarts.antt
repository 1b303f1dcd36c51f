-- By the unit at an index it is known that an item begins there: one that goes on no sequence.
use Rattle.std.proofs.Common.{◌≡◌, ℕ, zero, suc, ◌+◌, ◌-◌, ◌<◌, ◌≤◌, ◌⊎◌, inl, inr, Bool, true, false, nat_le, nat_lt, List, [], ◌∷◌, drop, get_or, length, refl, sym, ap, ◌∙◌, subst, arith}
use Rattle.std.specs.Prelude.{◌&&◌, ◌==◌, find, if◌then◌else◌, bit_and}
use Rattle.std.specs.Option.{option_map_or}
use Rattle.std.proofs.lemmas.Bool.{false≢true, ltb-false, ltb-true, leb-true}
use Rattle.std.proofs.lemmas.List.{length-drop}
use Rattle.seg_text.specs.Items.{Item, Reader, place_of, items_by}
use Rattle.seg_text.specs.Lemmas.Readers.{IsReader, items_by-cons}
use Rattle.seg_text.specs.Lemmas.Utf8Stable.{read_utf8-stable}
use Rattle.seg_text.specs.Lemmas.Utf16Stable.{read_utf16-stable}
use Rattle.seg_text.specs.Decoding.{Ranges, fitting, read_row, read_utf8, read_utf16, rows, utf8, utf16, utf8_items, utf16_items}
use Rattle.seg_segments.specs.TextSegments.{IsPlace}

-- a unit of this kind stands inside no item
abbrev NeverInside : Reader ℕ → (ℕ → Type 0) → Type 0
NeverInside read Begins = (unit : ℕ) (units : List ℕ) (i : ℕ) → i + 1 < (read (unit ∷ units)).0 → Begins (get_or units i 0) → ⊥

-- so an item begins where it stands
module _ (read : Reader ℕ) (reader : IsReader read) (Begins : ℕ → Type 0) (never : NeverInside read Begins) where
  dropped : (n index : ℕ) (units : List ℕ) → n ≤ index → get_or (drop n units) (index - n) 0 ≡ get_or units index 0
  dropped zero index units less = let same : index - 0 ≡ index = omega arith in ap (λ (k : ℕ). get_or units k 0) same
  dropped (suc n) zero units less = absurd (omega (arith, less))
  dropped (suc n) (suc index) [] less = none (suc index - suc n)
    where
      none : (k : ℕ) → get_or {A = ℕ} [] k 0 ≡ 0
      none zero = refl
      none (suc k) = refl
  dropped (suc n) (suc index) (unit ∷ units) less =
      let same : suc index - suc n ≡ index - n = omega arith in
      ap (λ (k : ℕ). get_or (drop n units) k 0) same ∙ dropped n index units (omega (arith, less))

  begins-at : (most place index : ℕ) (units : List ℕ) → index < most → index < length units → Begins (get_or units index 0)
      → (k : ℕ) × (place + index ≡ place_of (drop k (items_by read place units)) (place + length units))
  begins-at zero place index units bound inside begins = absurd (omega (arith, bound))
  begins-at (suc most) place index [] bound inside begins = absurd (omega (arith, inside))
  begins-at (suc most) place zero (unit ∷ units) bound inside begins =
      (zero, rw (items_by-cons read reader place unit units) (omega arith))
  begins-at (suc most) place (suc index) (unit ∷ units) bound inside begins =
      let taken = (read (unit ∷ units)).0 in
      let some = reader.some unit units in
      let whole = reader.within unit units in
      elim (cases_lt index taken) [
        | inl within ↦ absurd (never unit units index within begins)
        | inr behind ↦
            let left = drop taken (unit ∷ units) in
            let long : length left ≡ suc (length units) - taken = length-drop taken (unit ∷ units) in
            let there : get_or left (suc index - taken) 0 ≡ get_or (unit ∷ units) (suc index) 0 = dropped taken (suc index) (unit ∷ units) (omega (arith, behind)) in
            let (k, is) = begins-at most (place + taken) (suc index - taken) left (omega (arith, bound, some, behind)) (omega (arith, inside, long, behind, whole)) (subst Begins (sym there) begins) in
            let here : place + suc index ≡ place + taken + (suc index - taken) = omega (arith, behind) in
            let end : place + taken + length left ≡ place + suc (length units) = omega (arith, long, whole) in (
              suc k,
              here ∙ is ∙ ap (λ (end : ℕ). place_of (drop k (items_by read (place + taken) left)) end) end
                  ∙ ap (λ (items : List Item). place_of (drop (suc k) items) (place + suc (length units))) (sym (items_by-cons read reader place unit units)),
            )
      ]
    where
      cases_lt : (index taken : ℕ) → (index + 1 < taken) ⊎ (taken ≤ suc index)
      cases_lt index taken = on (nat_lt (index + 1) taken) refl
        where
          on : (b : Bool) → nat_lt (index + 1) taken ≡ b → (index + 1 < taken) ⊎ (taken ≤ suc index)
          on true is = inl (ltb-true _ _ is)
          on false is = inr (let not = ltb-false _ _ is in omega (arith, not))

  begins : (index : ℕ) (units : List ℕ) → index < length units → Begins (get_or units index 0)
      → (k : ℕ) × (index ≡ place_of (drop k (items_by read 0 units)) (0 + length units))
  begins index units inside is =
      let (k, at) = begins-at (suc index) 0 index units (omega arith) inside is in
      let same : index ≡ 0 + index = omega arith in
      (k, same ∙ at)

-- ---- UTF-8: a byte from 0x80 to 0xBF goes on a sequence, and no other

abbrev GoesOnSequence : ℕ → Type 0
GoesOnSequence byte = (0x80 ≤ byte) × (byte ≤ 0xBF)

-- all ranges of a row but the first are of such bytes
abbrev AreTrails : Ranges → Type 0
AreTrails [] = Unit {0}
AreTrails (range ∷ row) = (0x80 ≤ range.0) × (range.1 ≤ 0xBF) × AreTrails row

abbrev IsRow : Ranges → Type 0
IsRow [] = Unit {0}
IsRow (range ∷ row) = AreTrails row

abbrev AreRows : List Ranges → Type 0
AreRows [] = Unit {0}
AreRows (row ∷ table) = IsRow row × AreRows table

all-rows : AreRows rows
all-rows = omega arith

trails-fit : (row : Ranges) → AreTrails row → (bytes : List ℕ) (i : ℕ) → i < fitting row bytes → GoesOnSequence (get_or bytes i 0)
unfolding fitting
trails-fit [] are bytes i fits = absurd (omega (arith, fits))
trails-fit (range ∷ row) are [] i fits = absurd (omega (arith, fits))
trails-fit (range ∷ row) (low, high, later) (byte ∷ bytes) i fits = on (λ i fits. trails-fit row later bytes i fits) (nat_le range.0 byte) refl (nat_le byte range.1) refl i fits
  where
    on : ((i : ℕ) → i < fitting row bytes → GoesOnSequence (get_or bytes i 0)) → (a : Bool) → nat_le range.0 byte ≡ a → (b : Bool) → nat_le byte range.1 ≡ b → (i : ℕ)
        → i < (if nat_le range.0 byte && nat_le byte range.1 then suc (fitting row bytes) else 0) → GoesOnSequence (get_or (byte ∷ bytes) i 0)
    on more true from true to zero fits = let l = leb-true _ _ from in let h = leb-true _ _ to in (omega (arith, l, low), omega (arith, h, high))
    on more true from true to (suc i) fits = more i (let f : suc i < suc (fitting row bytes) = rw (from, to) at fits in omega (arith, f))
    on more true from false to i fits = absurd (let f : i < 0 = rw (from, to) at fits in omega (arith, f))
    on more false from b to i fits = absurd (let f : i < 0 = rw from at fits in omega (arith, f))

-- of a row that fits, all bytes but the first go on a sequence
row-fits : (row : Ranges) → IsRow row → (unit : ℕ) (units : List ℕ) (i : ℕ) → i + 1 < fitting row (unit ∷ units) → GoesOnSequence (get_or units i 0)
unfolding fitting
row-fits [] is unit units i fits = absurd (omega (arith, fits))
row-fits (range ∷ row) is unit units i fits = on (nat_le range.0 unit && nat_le unit range.1) fits
  where
    on : (b : Bool) → i + 1 < (if b then suc (fitting row units) else 0) → GoesOnSequence (get_or units i 0)
    on true fits = trails-fit row is units i (omega (arith, fits))
    on false fits = absurd (omega (arith, fits))

found-fits : (table : List Ranges) → AreRows table → (unit : ℕ) (units : List ℕ) (i : ℕ)
    → i + 1 < (option_map_or (λ row. read_row row (unit ∷ units)) (find (λ row. nat_lt 0 (fitting row (unit ∷ units))) table) (1, 0xFFFD)).0
    → GoesOnSequence (get_or units i 0)
unfolding read_row
found-fits [] are unit units i fits = absurd (omega (arith, fits))
found-fits (row ∷ table) (is, are) unit units i fits = on (λ fits. found-fits table are unit units i fits) (nat_lt 0 (fitting row (unit ∷ units))) refl fits
  where
    on : (i + 1 < (option_map_or (λ row. read_row row (unit ∷ units)) (find (λ row. nat_lt 0 (fitting row (unit ∷ units))) table) (1, 0xFFFD)).0
        → GoesOnSequence (get_or units i 0)) → (b : Bool) → nat_lt 0 (fitting row (unit ∷ units)) ≡ b
        → i + 1 < (option_map_or (λ row. read_row row (unit ∷ units)) (find (λ row. nat_lt 0 (fitting row (unit ∷ units))) (row ∷ table)) (1, 0xFFFD)).0
        → GoesOnSequence (get_or units i 0)
    on more true test fits = row-fits row is unit units i (rw test at fits)
    on more false test fits = more (rw test at fits)

abbrev BeginsUtf8 : ℕ → Type 0
BeginsUtf8 byte = (0x80 ≤ byte → byte ≤ 0xBF → ⊥)

never-utf8 : NeverInside read_utf8 BeginsUtf8
unfolding read_utf8
never-utf8 unit units i within begins = let (low, high) = found-fits rows all-rows unit units i within in begins low high

pub begins-utf8 : (bytes : List ℕ) (index : ℕ) → index < length bytes → (0x80 ≤ get_or bytes index 0 → get_or bytes index 0 ≤ 0xBF → ⊥) → IsPlace (utf8 bytes) index
unfolding utf8_items
begins-utf8 bytes index inside is =
    let (k, at) = begins read_utf8 read_utf8-stable.reader BeginsUtf8 never-utf8 index bytes inside is in
    record { before = k; at = at }

-- ---- UTF-16: a low surrogate goes on a pair, and no other unit

abbrev BeginsUtf16 : ℕ → Type 0
BeginsUtf16 unit = (bit_and unit 0xFC00 == 0xDC00) ≡ false

never-utf16 : NeverInside read_utf16 BeginsUtf16
unfolding read_utf16
never-utf16 unit [] i within begins = absurd (omega (arith, within))
never-utf16 unit (next ∷ units) i within begins = on (bit_and unit 0xFC00 == 0xD800) refl (bit_and next 0xFC00 == 0xDC00) refl i within begins
  where
    on : (a : Bool) → (bit_and unit 0xFC00 == 0xD800) ≡ a → (b : Bool) → (bit_and next 0xFC00 == 0xDC00) ≡ b → (i : ℕ)
        → i + 1 < (read_utf16 (unit ∷ next ∷ units)).0 → BeginsUtf16 (get_or (next ∷ units) i 0) → ⊥
    on true high true low zero within begins = false≢true (sym begins ∙ low)
    on true high true low (suc i) within begins = absurd (let w : suc i + 1 < 2 = rw (high, low) at within in omega (arith, w))
    on true high false low i within begins = absurd (let w : i + 1 < 1 = rw (high, low) at within in omega (arith, w))
    on false high b low i within begins = absurd (let w : i + 1 < 1 = rw high at within in omega (arith, w))

pub begins-utf16 : (units : List ℕ) (index : ℕ) → index < length units → (bit_and (get_or units index 0) 0xFC00 == 0xDC00) ≡ false → IsPlace (utf16 units) index
unfolding utf16_items
begins-utf16 units index inside is =
    let (k, at) = begins read_utf16 read_utf16-stable.reader BeginsUtf16 never-utf16 index units inside is in
    record { before = k; at = at }
