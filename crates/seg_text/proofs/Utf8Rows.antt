-- How many bytes fit a row of Table 3-7, and which row a first byte belongs to.
use Rattle.std.proofs.Common.{◌≡◌, ℕ, zero, suc, ◌<◌, ◌≤◌, Bool, true, false, nat_le, nat_lt, List, [], ◌∷◌, length, get_or, take, drop, refl, arith}
use Rattle.std.specs.Prelude.{◌&&◌, Some, find, Contains, slice_index_or}
use Rattle.std.proofs.lemmas.List.{drop_all}
use Rattle.std.proofs.lemmas.Bool.{le-leb, lt-leb, lt-ltb, leb-true, leb-false, ltb-true, ltb-false, and_parts, and_from, and_left, and_right}
use Rattle.std.proofs.Math.Seq.{drop-cons}
use Rattle.seg_text.specs.Decoding.{Fits, fitting, StandsAt, Ranges, Range}

-- a byte of a row's range, and those of the rest of the row after it
fitting-in : (range : Range) (row : Ranges) (byte : ℕ) (bytes : List ℕ) → range.0 ≤ byte → byte ≤ range.1
    → fitting (range ∷ row) (byte ∷ bytes) ≡ suc (fitting row bytes)
unfolding fitting
fitting-in range row byte bytes above below =
    rw (and_from (nat_le range.0 byte) (nat_le byte range.1) (le-leb _ _ above) (le-leb _ _ below)) refl

fitting-under : (range : Range) (row : Ranges) (byte : ℕ) (bytes : List ℕ) → byte < range.0
    → fitting (range ∷ row) (byte ∷ bytes) ≡ 0
unfolding fitting
fitting-under range row byte bytes out = rw (and_left (nat_le range.0 byte) (nat_le byte range.1) (lt-leb _ _ out)) refl

fitting-over : (range : Range) (row : Ranges) (byte : ℕ) (bytes : List ℕ) → range.1 < byte
    → fitting (range ∷ row) (byte ∷ bytes) ≡ 0
unfolding fitting
fitting-over range row byte bytes out = rw (and_right (nat_le range.0 byte) (nat_le byte range.1) (lt-leb _ _ out)) refl

fitting-nil : (row : Ranges) → fitting row [] ≡ 0
unfolding fitting
fitting-nil [] = refl
fitting-nil (range ∷ row) = refl

-- a byte is in a range, or under it, or over it
data Lies (range : Range) (byte : ℕ) : Type 0 where
  within : range.0 ≤ byte → byte ≤ range.1 → Lies range byte
  under : byte < range.0 → Lies range byte
  over : range.1 < byte → Lies range byte

lies : (range : Range) (byte : ℕ) → Lies range byte
lies range byte = first (nat_le range.0 byte) refl (nat_le byte range.1) refl
  where
    first : (low : Bool) → nat_le range.0 byte ≡ low → (high : Bool) → nat_le byte range.1 ≡ high → Lies range byte
    first true low true high = within (leb-true _ _ low) (leb-true _ _ high)
    first false low high is = under (leb-false _ _ low)
    first true low false high = over (leb-false _ _ high)

pub fitting-bounds : (row : Ranges) (bytes : List ℕ) → (fitting row bytes ≤ length row) × (fitting row bytes ≤ length bytes)
unfolding fitting
fitting-bounds [] bytes = (omega arith, omega arith)
fitting-bounds (range ∷ row) [] = (omega arith, omega arith)
fitting-bounds (range ∷ row) (byte ∷ bytes) = on (lies range byte) (fitting-bounds row bytes)
  where
    on : Lies range byte → (fitting row bytes ≤ length row) × (fitting row bytes ≤ length bytes)
        → (fitting (range ∷ row) (byte ∷ bytes) ≤ suc (length row)) × (fitting (range ∷ row) (byte ∷ bytes) ≤ suc (length bytes))
    on (within low high) more =
        let is = fitting-in range row byte bytes low high in (omega (arith, more.0), omega (arith, more.1))
    on (under out) more = let is = fitting-under range row byte bytes out in (omega arith, omega arith)
    on (over out) more = let is = fitting-over range row byte bytes out in (omega arith, omega arith)

-- the bytes that fit are those that `fitting` counts
pub fitting-fits : (row : Ranges) (bytes : List ℕ) (n : ℕ) → n ≤ fitting row bytes → Fits row (take n bytes)
unfolding fitting
fitting-fits row bytes zero few = tt
fitting-fits row [] (suc n) few = tt
fitting-fits [] (byte ∷ bytes) (suc n) few = absurd (omega arith)
fitting-fits (range ∷ row) (byte ∷ bytes) (suc n) few = on (lies range byte) (fitting-fits row bytes n)
  where
    on : Lies range byte → (n ≤ fitting row bytes → Fits row (take n bytes)) → Fits (range ∷ row) (byte ∷ take n bytes)
    on (within low high) more = let is = fitting-in range row byte bytes low high in (low, high, more (omega arith))
    on (under out) more = let is = fitting-under range row byte bytes out in absurd (omega arith)
    on (over out) more = let is = fitting-over range row byte bytes out in absurd (omega arith)

pub fits-fitting : (row : Ranges) (bytes : List ℕ) (n : ℕ) → Fits row (take n bytes) → length (take n bytes) ≤ fitting row bytes
fits-fitting row bytes zero fits = omega arith
fits-fitting row [] (suc n) fits = omega arith
fits-fitting [] (byte ∷ bytes) (suc n) fits = absurd fits
fits-fitting (range ∷ row) (byte ∷ bytes) (suc n) (low, high, fits) =
    let is = fitting-in range row byte bytes low high in
    omega (arith, fits-fitting row bytes n fits)

-- ---- by the places of bytes

pub fitting-step : (range : Range) (row : Ranges) (bytes : List ℕ) (i : ℕ) → StandsAt bytes i range
    → fitting (range ∷ row) (drop i bytes) ≡ suc (fitting row (drop (suc i) bytes))
fitting-step range row bytes i (there, low, high) =
    rw (drop-cons bytes i 0) (fitting-in range row (get_or bytes i 0) (drop (suc i) bytes) low high)

pub fitting-stop : (range : Range) (row : Ranges) (bytes : List ℕ) (i : ℕ) → (StandsAt bytes i range → ⊥)
    → fitting (range ∷ row) (drop i bytes) ≡ 0
fitting-stop range row bytes i not = on (nat_lt i (length bytes)) refl (lies range (get_or bytes i 0))
  where
    on : (b : Bool) → nat_lt i (length bytes) ≡ b → Lies range (get_or bytes i 0) → fitting (range ∷ row) (drop i bytes) ≡ 0
    on false is at = rw (drop_all i bytes (ltb-false _ _ is)) (fitting-nil (range ∷ row))
    on true is (within low high) = absurd (not (ltb-true _ _ is, low, high))
    on true is (under out) =
        let there : i < length bytes = ltb-true _ _ is in
        rw (drop-cons bytes i 0) (fitting-under range row (get_or bytes i 0) (drop (suc i) bytes) out)
    on true is (over out) =
        let there : i < length bytes = ltb-true _ _ is in
        rw (drop-cons bytes i 0) (fitting-over range row (get_or bytes i 0) (drop (suc i) bytes) out)

-- ---- the row that a first byte belongs to

abbrev pub head : Ranges → Range
head [] = (0, 0)
head (range ∷ row) = range

pub fitting-head : (row : Ranges) (bytes : List ℕ) → 0 < fitting row bytes → StandsAt bytes 0 (head row)
unfolding fitting
fitting-head [] bytes some = absurd (omega arith)
fitting-head (range ∷ row) [] some = absurd (omega arith)
fitting-head (range ∷ row) (byte ∷ bytes) some = on (lies range byte)
  where
    on : Lies range byte → StandsAt (byte ∷ bytes) 0 range
    on (within low high) = (omega arith, low, high)
    on (under out) = let is = fitting-under range row byte bytes out in absurd (omega arith)
    on (over out) = let is = fitting-over range row byte bytes out in absurd (omega arith)

-- the first ranges of the rows begin above a number
abbrev above : ℕ → List Ranges → Bool
above n [] = true
above n (row ∷ table) = nat_lt n (head row).0 && above n table

-- the first ranges of the rows are in order, and apart
abbrev pub apart : List Ranges → Bool
apart [] = true
apart (row ∷ table) = above (head row).1 table && apart table

above-at : (n : ℕ) (table : List Ranges) (k : ℕ) (row : Ranges) → above n table ≡ true
    → k < length table → slice_index_or table k row ≡ row → n < (head row).0
above-at n [] k row all here is = absurd (omega arith)
above-at n (first ∷ table) zero row all here is =
    rw is at (ltb-true n (head first).0 (and_parts (nat_lt n (head first).0) (above n table) all).0)
above-at n (first ∷ table) (suc k) row all here is = above-at n table k row (and_parts (nat_lt n (head first).0) (above n table) all).1 (omega arith) is

abbrev pub begins : List ℕ → Ranges → Bool
begins bytes row = nat_lt 0 (fitting row bytes)

-- a row that the first byte belongs to is found
pub find-belongs : (table : List Ranges) (bytes : List ℕ) (k : ℕ) (row : Ranges) → apart table ≡ true
    → k < length table → slice_index_or table k row ≡ row → 0 < fitting row bytes
    → find (begins bytes) table ≡ Some row
find-belongs [] bytes k row far here is some = absurd (omega arith)
find-belongs (first ∷ table) bytes zero row far here is some =
    rw (is, lt-ltb 0 (fitting row bytes) some) refl
find-belongs (first ∷ table) bytes (suc k) row far here is some =
    let below : (head first).1 < (head row).0 = above-at (head first).1 table k row (and_parts (above (head first).1 table) (apart table) far).0 (omega arith) is in
    let at = fitting-head row bytes some in
    let none : begins bytes first ≡ false = on (begins bytes first) refl below at in
    rw none (find-belongs table bytes k row (and_parts (above (head first).1 table) (apart table) far).1 (omega arith) is some)
  where
    on : (b : Bool) → begins bytes first ≡ b → (head first).1 < (head row).0 → StandsAt bytes 0 (head row) → begins bytes first ≡ false
    on false is below at = is
    on true is below at =
        let other = fitting-head first bytes (ltb-true _ _ is) in absurd (omega (arith, other.2, at.1))

-- what is found is such a row
pub found-belongs : (table : List Ranges) (bytes : List ℕ) (row : Ranges) → find (begins bytes) table ≡ Some row
    → Contains table row × (0 < fitting row bytes)
found-belongs [] bytes row is = absurd (cc)
found-belongs (first ∷ table) bytes row is = on (begins bytes first) refl (found-belongs table bytes row)
  where
    on : (b : Bool) → begins bytes first ≡ b → (find (begins bytes) table ≡ Some row → Contains table row × (0 < fitting row bytes))
        → Contains (first ∷ table) row × (0 < fitting row bytes)
    on true test more =
        let same : first ≡ row = let here = rw test at is in cc in
        ((0, omega arith, same), rw same at (ltb-true _ _ test))
    on false test more =
        let later = more (rw test at is) in
        ((suc later.0.0, omega (arith, later.0.1), later.0.2), later.1)
