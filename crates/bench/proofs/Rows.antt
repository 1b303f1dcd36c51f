-- The entries of a pair table by a rule for each: how many there are, and that none names a state past the last.
use Rattle.std.proofs.Common.{◌≡◌, ℕ, zero, suc, ◌+◌, ◌*◌, Bool, true, false, List, [], ◌∷◌, ◌++◌, length, append-nil, append_assoc, if◌then◌else◌, refl, sym, arith}
use Rattle.std.proofs.Math.Nat.{suc-mul, zero-mul}
use Rattle.std.proofs.lemmas.List.{length-append}
use Rattle.std.proofs.lemmas.List.Folds.{list_all-append}
use Rattle.std.specs.List.{list_all}
use Rattle.seg_pairs.specs.declared.provider.pairs.BreakState.{BreakState}
use Rattle.bench.specs.Rows.{row, rows}
use Rattle.bench.proofs.PairFaults.{names_below}

-- a test of one of two entries
pub chosen : (count : ℕ) (test : Bool) (one other : BreakState)
    → names_below count one ≡ true → names_below count other ≡ true → names_below count (if test then one else other) ≡ true
chosen count true one other first second = first
chosen count false one other first second = second

module _ (entry : ℕ → ℕ → BreakState) where
  -- a row goes on with one entry, and rows with one row

  pub row-begins : (entries : List BreakState) (left : ℕ) → entries ≡ entries ++ row entry left 0
  unfolding row
  row-begins entries left = sym (append-nil entries)

  pub row-goes : (before entries after : List BreakState) (left right : ℕ) (one : BreakState)
      → entries ≡ before ++ row entry left right → one ≡ entry left right → after ≡ entries ++ one ∷ [] → after ≡ before ++ row entry left (right + 1)
  unfolding row
  row-goes before entries after left right one so_far is pushed =
      let more : right + 1 ≡ suc right = omega arith in
      rw (pushed, so_far, is, more) (append_assoc before (row entry left right) (entry left right ∷ []))

  pub rows-next : (count left : ℕ) → rows entry count (left + 1) ≡ rows entry count left ++ row entry left count
  unfolding rows
  rows-next count left = let more : left + 1 ≡ suc left = omega arith in rw more refl

  -- each row has an entry for each class

  row-length : (left right : ℕ) → length (row entry left right) ≡ right
  unfolding row
  row-length left zero = refl
  row-length left (suc right) = omega (arith, length-append (row entry left right) (entry left right ∷ []), row-length left right)

  pub rows-length : (count left : ℕ) → length (rows entry count left) ≡ left * count
  unfolding rows
  rows-length count zero = sym (zero-mul count)
  rows-length count (suc left) = omega (arith, suc-mul left count, length-append (rows entry count left) (row entry left count), rows-length count left, row-length left count)

  -- no entry names a state past the last

  module _ (count : ℕ) (passes : (left right : ℕ) → names_below count (entry left right) ≡ true) where
    row-passes : (left right : ℕ) → list_all (names_below count) (row entry left right) ≡ true
    unfolding row
    row-passes left zero = refl
    row-passes left (suc right) =
        rw (list_all-append (names_below count) (row entry left right) (entry left right ∷ []), row-passes left right, passes left right) refl

    pub rows-pass : (left : ℕ) → list_all (names_below count) (rows entry count left) ≡ true
    unfolding rows
    rows-pass zero = refl
    rows-pass (suc left) = rw (list_all-append (names_below count) (rows entry count left) (row entry left count), rows-pass left, row-passes left count) refl
