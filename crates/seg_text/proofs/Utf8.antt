-- UTF-8's reader reads as Table 3-7 says, and nothing else does.
use Rattle.std.proofs.Common.{◌≡◌, ◌≢◌, ℕ, zero, suc, ◌<◌, ◌≤◌, ◌⊎◌, inl, inr, Bool, true, false, List, [], ◌∷◌, length, take, refl, ap, sym, ◌∙◌, arith}
use Rattle.std.specs.Prelude.{Option, Some, None, find, Contains, slice_index_or}
use Rattle.std.proofs.lemmas.List.{length-take-le}
use Rattle.std.proofs.lemmas.Bool.{eq-eqb, ne_eqb, cases_eq}
use Rattle.seg_text.specs.Decoding.{rows, IsBeginning, IsWellFormed, ReadsUtf8, fitting, read_row, read_utf8, scalar_of, Ranges}
use Rattle.seg_text.specs.Lemmas.Rising.{read_utf8-reader}
use Rattle.seg_text.proofs.Items.{IsReaderOf}
use Rattle.seg_text.proofs.Utf8Rows.{fitting-bounds, fitting-fits, fits-fitting, begins, find-belongs, found-belongs}

-- the row is not full, and so what stands there is ill-formed
pub read_row-part : (row : Ranges) (bytes : List ℕ) → fitting row bytes ≢ length row
    → read_row row bytes ≡ (fitting row bytes, 0xFFFD)
unfolding read_row
read_row-part row bytes part = rw (ne_eqb (fitting row bytes) (length row) part) refl

pub read_row-whole : (row : Ranges) (bytes : List ℕ) → fitting row bytes ≡ length row
    → read_row row bytes ≡ (length row, scalar_of (take (length row) bytes))
unfolding read_row
read_row-whole row bytes whole = rw (whole, eq-eqb (length row) (length row) refl) refl

-- the row that the first byte belongs to is the only one
pub read_utf8-row : (row : Ranges) (bytes : List ℕ) → Contains rows row → 0 < fitting row bytes
    → read_utf8 bytes ≡ read_row row bytes
unfolding read_utf8
read_utf8-row row bytes among some =
    rw (find-belongs rows bytes among.0 row refl among.1 among.2 some) refl

same-row : (a b : Ranges) (bytes : List ℕ) → Contains rows a → Contains rows b → 0 < fitting a bytes → 0 < fitting b bytes
    → a ≡ b
same-row a b bytes in_a in_b some_a some_b =
    let found_a = find-belongs rows bytes in_a.0 a refl in_a.1 in_a.2 some_a in
    let found_b = find-belongs rows bytes in_b.0 b refl in_b.1 in_b.2 some_b in
    cc

-- no row is empty
abbrev filled : List Ranges → Bool
filled [] = true
filled ([] ∷ table) = false
filled ((range ∷ row) ∷ table) = filled table

some-range : (table : List Ranges) (k : ℕ) (row : Ranges) → filled table ≡ true → k < length table
    → slice_index_or table k row ≡ row → 0 < length row
some-range [] k row full here is = absurd (omega arith)
some-range ([] ∷ table) k row full here is = absurd (cc)
some-range ((range ∷ first) ∷ table) zero row full here is = omega (arith, ap length is)
some-range ((range ∷ first) ∷ table) (suc k) row full here is = some-range table k row full (omega arith) is

-- a well-formed sequence is that of the row that its first byte belongs to
well-formed : (bytes : List ℕ) (n : ℕ) → IsWellFormed (take n bytes)
    → (row : Ranges) × Contains rows row × (0 < fitting row bytes) × (length (take n bytes) ≡ length row) × (fitting row bytes ≡ length row)
well-formed bytes n (row, among, fits, whole) =
    let few = fits-fitting row bytes n fits in
    let some = some-range rows among.0 row refl among.1 among.2 in
    let bound = (fitting-bounds row bytes).0 in
    (row, among, omega arith, whole, omega arith)

whole-is : (row : Ranges) (bytes : List ℕ) (taken code_point : ℕ) → fitting row bytes ≡ length row → taken ≡ length row
    → code_point ≡ scalar_of (take taken bytes) → (taken, code_point) ≡ read_row row bytes
whole-is row bytes taken code_point whole same is = rw (read_row-whole row bytes whole, is, same) refl

-- either one row has a beginning there, or none has
pub data Row (bytes : List ℕ) : Type 0 where
  has_row : (row : Ranges) → Contains rows row → 0 < fitting row bytes → read_utf8 bytes ≡ read_row row bytes → Row bytes
  has_none : ((row : Ranges) → Contains rows row → fitting row bytes ≡ 0) → read_utf8 bytes ≡ (1, 0xFFFD) → Row bytes

pub row-of : (bytes : List ℕ) → Row bytes
unfolding read_utf8
row-of bytes = on (find (begins bytes) rows) refl
  where
    zero-or : (row : Ranges) (n : ℕ) → fitting row bytes ≡ n → Contains rows row → find (begins bytes) rows ≡ None → fitting row bytes ≡ 0
    zero-or row zero is among found = is
    zero-or row (suc n) is among found =
        let other = find-belongs rows bytes among.0 row refl among.1 among.2 (omega arith) in absurd (cc)

    on : (found : Option Ranges) → find (begins bytes) rows ≡ found → Row bytes
    on None found = has_none (λ row among. zero-or row (fitting row bytes) refl among found) (rw found refl)
    on (Some row) found =
        let belongs = found-belongs rows bytes row found in
        has_row row belongs.0 belongs.1 (read_utf8-row row bytes belongs.0 belongs.1)

reads : (unit : ℕ) (units : List ℕ) → ReadsUtf8 (unit ∷ units) (read_utf8 (unit ∷ units)).0 (read_utf8 (unit ∷ units)).1
reads unit units = on (row-of (unit ∷ units))
  where
    on : Row (unit ∷ units) → ReadsUtf8 (unit ∷ units) (read_utf8 (unit ∷ units)).0 (read_utf8 (unit ∷ units)).1
    on (has_none nothing is) = rw is (inr (record {
      ill_formed = λ n whole. let at = well-formed (unit ∷ units) n whole in let absent = nothing at.0 at.1 in omega (arith, at.2);
      beginning = inl refl;
      longest = λ n more within beginning.
          let absent = nothing beginning.0 beginning.1 in
          let few = fits-fitting beginning.0 (unit ∷ units) n beginning.2 in
          let long = length-take-le n (unit ∷ units) within in omega arith;
      replacement = refl;
    }))
    on (has_row row among some is) = rw is (full row among some (cases_eq (fitting row (unit ∷ units)) (length row)))
      where
        full : (row : Ranges) → Contains rows row → 0 < fitting row (unit ∷ units)
            → (fitting row (unit ∷ units) ≡ length row) ⊎ (fitting row (unit ∷ units) ≡ length row → ⊥)
            → ReadsUtf8 (unit ∷ units) (read_row row (unit ∷ units)).0 (read_row row (unit ∷ units)).1
        full row among some (inl whole) =
            let bound : length row ≤ length (unit ∷ units) = omega (arith, (fitting-bounds row (unit ∷ units)).1) in
            rw (read_row-whole row (unit ∷ units) whole) (inl (record {
              well_formed = (row, among, fitting-fits row (unit ∷ units) (length row) (omega arith), length-take-le (length row) (unit ∷ units) bound);
              scalar = refl;
            }))
        full row among some (inr part) =
            rw (read_row-part row (unit ∷ units) part) (inr (record {
              ill_formed = λ n whole.
                  let at = well-formed (unit ∷ units) n whole in
                  let same = same-row at.0 row (unit ∷ units) at.1 among at.2 some in
                  part (rw same at at.4);
              beginning = inr (row, among, fitting-fits row (unit ∷ units) (fitting row (unit ∷ units)) (omega arith));
              longest = λ n more within beginning.
                  let few = fits-fitting beginning.0 (unit ∷ units) n beginning.2 in
                  let long = length-take-le n (unit ∷ units) within in
                  let same = same-row beginning.0 row (unit ∷ units) beginning.1 among (omega arith) some in
                  let fewer = rw same at few in omega arith;
              replacement = refl;
            }))

only : (unit : ℕ) (units : List ℕ) (taken code_point : ℕ) → 0 < taken → taken ≤ suc (length units)
    → ReadsUtf8 (unit ∷ units) taken code_point → (taken, code_point) ≡ read_utf8 (unit ∷ units)
only unit units taken code_point some within (inl read) =
    let at = well-formed (unit ∷ units) taken read.well_formed in
    let long = length-take-le taken (unit ∷ units) within in
    let same : taken ≡ length at.0 = omega (arith, at.3) in
    whole-is at.0 (unit ∷ units) taken code_point at.4 same read.scalar ∙ sym (read_utf8-row at.0 (unit ∷ units) at.1 at.2)
only unit units taken code_point some within (inr read) = on (row-of (unit ∷ units)) read.beginning
  where
    long : length (take taken (unit ∷ units)) ≡ taken
    long = length-take-le taken (unit ∷ units) within

    on : Row (unit ∷ units) → (taken ≡ 1) ⊎ IsBeginning (take taken (unit ∷ units)) → (taken, code_point) ≡ read_utf8 (unit ∷ units)
    on (has_none nothing is) (inl single) = rw (is, single, read.replacement) refl
    on (has_none nothing is) (inr beginning) =
        let absent = nothing beginning.0 beginning.1 in
        let few = fits-fitting beginning.0 (unit ∷ units) taken beginning.2 in absurd (omega (arith, long))
    on (has_row row among any is) start =
        let part : fitting row (unit ∷ units) ≢ length row = λ whole.
        let bound : length row ≤ length (unit ∷ units) = omega (arith, (fitting-bounds row (unit ∷ units)).1) in
        read.ill_formed (length row)
        (row, among, fitting-fits row (unit ∷ units) (length row) (omega arith), length-take-le (length row) (unit ∷ units) bound) in
        let most : fitting row (unit ∷ units) ≤ taken = not-less (λ fewer. read.longest (fitting row (unit ∷ units)) fewer (fitting-bounds row (unit ∷ units)).1
        (row, among, fitting-fits row (unit ∷ units) (fitting row (unit ∷ units)) (omega arith))) in
        let least : taken ≤ fitting row (unit ∷ units) = fits start in
        let same : taken ≡ fitting row (unit ∷ units) = omega arith in
        rw (is, read_row-part row (unit ∷ units) part, same, read.replacement) refl
      where
        not-less : (taken < fitting row (unit ∷ units) → ⊥) → fitting row (unit ∷ units) ≤ taken
        not-less never = omega (arith, never)

        fits : (taken ≡ 1) ⊎ IsBeginning (take taken (unit ∷ units)) → taken ≤ fitting row (unit ∷ units)
        fits (inl single) = omega arith
        fits (inr beginning) =
            let few = fits-fitting beginning.0 (unit ∷ units) taken beginning.2 in
            let equal = same-row beginning.0 row (unit ∷ units) beginning.1 among (omega (arith, long)) any in
            let enough = rw equal at few in omega (arith, long)

pub read_utf8-of : IsReaderOf ReadsUtf8 read_utf8
read_utf8-of = record { reader = read_utf8-reader; reads = reads; only = only }
