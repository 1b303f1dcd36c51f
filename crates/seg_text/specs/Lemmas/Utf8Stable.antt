-- What UTF-8's reader reads of an item stays the same where the bytes after the item are cut off.
use Rattle.std.proofs.Common.{◌≡◌, ℕ, zero, suc, ◌<◌, ◌≤◌, min, Bool, true, false, nat_le, nat_lt, List, [], ◌∷◌, take, refl, arith}
use Rattle.std.specs.Prelude.{◌&&◌, find, if◌then◌else◌}
use Rattle.std.specs.Option.{option_map_or}
use Rattle.std.proofs.lemmas.List.{take-take}
use Rattle.std.proofs.lemmas.Bool.{lt-ltb, le-ltb, ltb-true, ltb-false}
use Rattle.seg_text.specs.Items.{Reading}
use Rattle.seg_text.specs.Decoding.{rows, fitting, read_row, read_utf8, Ranges}
use Rattle.seg_text.specs.Lemmas.Rising.{read_utf8-reader}
use Rattle.seg_text.specs.Lemmas.Readers.{IsStable}

fitting-take : (row : Ranges) (most : ℕ) (bytes : List ℕ) → fitting row (take most bytes) ≡ min most (fitting row bytes)
unfolding fitting
fitting-take [] most bytes = omega arith
fitting-take (range ∷ row) zero bytes = omega arith
fitting-take (range ∷ row) (suc most) [] = omega arith
fitting-take (range ∷ row) (suc most) (byte ∷ bytes) =
    either (nat_le range.0 byte && nat_le byte range.1) (fitting row (take most bytes)) (fitting row bytes) (fitting-take row most bytes)
  where
    either : (b : Bool) (cut whole : ℕ) → cut ≡ min most whole
        → (if b then suc cut else 0) ≡ min (suc most) (if b then suc whole else 0)
    either true cut whole same = omega arith
    either false cut whole same = omega arith

-- a row whose bytes are all left
read_row-stable : (row : Ranges) (most : ℕ) (bytes : List ℕ) → fitting row bytes ≤ most
    → read_row row (take most bytes) ≡ read_row row bytes
unfolding read_row
read_row-stable row most bytes few =
    let same : fitting row (take most bytes) ≡ fitting row bytes = omega (arith, fitting-take row most bytes) in
    rw (same, take-take (fitting row bytes) most bytes few) refl

-- the row that is found is the same
read_found-stable : (table : List Ranges) (most : ℕ) (bytes : List ℕ) → 0 < most
    → (option_map_or (λ row. read_row row bytes) (find (λ row. nat_lt 0 (fitting row bytes)) table) (1, 0xFFFD)).0 ≤ most
    → option_map_or (λ row. read_row row (take most bytes)) (find (λ row. nat_lt 0 (fitting row (take most bytes))) table) (1, 0xFFFD)
    ≡ option_map_or (λ row. read_row row bytes) (find (λ row. nat_lt 0 (fitting row bytes)) table) (1, 0xFFFD)
unfolding read_row
read_found-stable [] most bytes some few = refl
read_found-stable (row ∷ table) most bytes some few =
    on (nat_lt 0 (fitting row bytes)) refl few (read_found-stable table most bytes some)
  where
    found : List ℕ → List Ranges → Reading
    found bytes table = option_map_or (λ row. read_row row bytes) (find (λ row. nat_lt 0 (fitting row bytes)) table) (1, 0xFFFD)

    on : (b : Bool) → nat_lt 0 (fitting row bytes) ≡ b → (found bytes (row ∷ table)).0 ≤ most
        → ((found bytes table).0 ≤ most → found (take most bytes) table ≡ found bytes table)
        → found (take most bytes) (row ∷ table) ≡ found bytes (row ∷ table)
    on true test few more =
        let cut : nat_lt 0 (fitting row (take most bytes)) ≡ true =
        lt-ltb _ _ (omega (arith, fitting-take row most bytes, ltb-true _ _ test)) in
        let enough : fitting row bytes ≤ most = rw test at few in
        rw (cut, test) (read_row-stable row most bytes enough)
    on false test few more =
        let cut : nat_lt 0 (fitting row (take most bytes)) ≡ false =
        le-ltb _ _ (omega (arith, fitting-take row most bytes, ltb-false _ _ test)) in
        let enough = rw test at few in
        rw (cut, test) (more enough)

pub read_utf8-stable : IsStable read_utf8
unfolding read_utf8
read_utf8-stable = record {
  reader = read_utf8-reader;
  stable = λ most unit units few.
      let some = read_utf8-reader.some unit units in
      read_found-stable rows most (unit ∷ units) (omega arith) few;
}
