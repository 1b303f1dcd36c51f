-- The ranges of the code are the rows in the order of code points, in which three of Myanmar's come later.
use Rattle.std.proofs.Common.{◌≡◌, ℕ, ◌<◌, ◌≤◌, Bool, true, false, cond, nat_le, nat_lt, List, [], ◌∷◌, ◌++◌, map, take, drop, refl, sym, ap, ◌∙◌, inl, inr, arith}
use Rattle.std.specs.Prelude.{◌&&◌, Option, None, Some, find}
use Rattle.std.specs.Option.{option_map, option_map_or, option_or}
use Rattle.std.proofs.lemmas.Bool.{cases_lt, lt-leb, le-leb, ltb-true, leb-true, and_from, and_left, and_right, and_parts}
use Rattle.std.proofs.lemmas.List.Folds.{find-append}
use Rattle.seg_data.specs.declared.provider.ComplexScript.TheVariants.{ChineseOrJapanese, Thai, None as NoScript}
use Rattle.seg_data.specs.Table as tables
use Rattle.seg_clusters.specs.declared.script_iter.ranges.TheConstants.{RANGES}
use Rattle.seg_clusters.specs.Scripts.{Row, script_rows, row_holds, script_of, script_number}

-- a row as a range
numbered : Row → ℕ × ℕ × ℕ
numbered row = (row.0, row.1, script_number row.2)

find-numbered : (code_point : ℕ) (rows : List Row)
    → find (tables.holds code_point) (map numbered rows) ≡ option_map numbered (find (row_holds code_point) rows)
unfolding numbered
find-numbered code_point [] = refl
find-numbered code_point (row ∷ rows) = on (row_holds code_point row) (find-numbered code_point rows)
  where
    on : (b : Bool) → find (tables.holds code_point) (map numbered rows) ≡ option_map numbered (find (row_holds code_point) rows)
        → cond b (Some (numbered row)) (find (tables.holds code_point) (map numbered rows)) ≡ option_map numbered (cond b (Some row) (find (row_holds code_point) rows))
    on true rest = refl
    on false rest = rest

-- rows that end before a code point, or begin after it, don't hold it

abbrev end_below : ℕ → List Row → Bool
end_below bound [] = true
end_below bound (row ∷ rows) = nat_lt row.1 bound && end_below bound rows

abbrev begin_from : ℕ → List Row → Bool
begin_from bound [] = true
begin_from bound (row ∷ rows) = nat_le bound row.0 && begin_from bound rows

past-none : (bound code_point : ℕ) (rows : List Row) → end_below bound rows ≡ true → bound ≤ code_point → find (row_holds code_point) rows ≡ None
past-none bound code_point [] ends past = refl
past-none bound code_point (row ∷ rows) ends past =
    let parts = and_parts (nat_lt row.1 bound) (end_below bound rows) ends in
    ap (λ b. cond b (Some row) (find (row_holds code_point) rows))
    (and_right (nat_le row.0 code_point) (nat_le code_point row.1) (lt-leb _ _ (omega (arith, ltb-true _ _ parts.0, past))))
    ∙ past-none bound code_point rows parts.1 past

before-none : (bound code_point : ℕ) (rows : List Row) → begin_from bound rows ≡ true → code_point < bound → find (row_holds code_point) rows ≡ None
before-none bound code_point [] begins before = refl
before-none bound code_point (row ∷ rows) begins before =
    let parts = and_parts (nat_le bound row.0) (begin_from bound rows) begins in
    ap (λ b. cond b (Some row) (find (row_holds code_point) rows))
    (and_left (nat_le row.0 code_point) (nat_le code_point row.1) (lt-leb _ _ (omega (arith, leb-true _ _ parts.0, before))))
    ∙ before-none bound code_point rows parts.1 before

-- rows on both sides of a bound may change places
module _ (bound : ℕ) (start high low end : List Row) (begins : begin_from bound high ≡ true) (ends : end_below bound low ≡ true) where
  swapped : (code_point : ℕ)
      → find (row_holds code_point) (start ++ (low ++ (high ++ end))) ≡ find (row_holds code_point) (start ++ (high ++ (low ++ end)))
  swapped code_point =
      let test = row_holds code_point in
      find-append test start (low ++ (high ++ end)) ∙ ap (option_or (find test start)) middle ∙ sym (find-append test start (high ++ (low ++ end)))
    where
      middle : find (row_holds code_point) (low ++ (high ++ end)) ≡ find (row_holds code_point) (high ++ (low ++ end))
      middle =
          let test = row_holds code_point in
          find-append test low (high ++ end) ∙ ap (option_or (find test low)) (find-append test high end)
          ∙ elim (cases_lt code_point bound) [
            | inl before ↦ rw (before-none bound code_point high begins before) (rw (← find-append test low end) (sym (find-append test high (low ++ end) ∙ rw (before-none bound code_point high begins before) refl)))
            | inr past ↦ rw (past-none bound code_point low ends past) (sym (find-append test high (low ++ end) ∙ rw (find-append test low end, past-none bound code_point low ends past) refl))
          ]

start : List Row
unfolding script_rows
start = take 16 script_rows

-- the rows of Myanmar from U+A9E0 on
high : List Row
unfolding script_rows
high = take 3 (drop 16 script_rows)

-- those up to U+9FFF that stand after them
low : List Row
unfolding script_rows
low = take 15 (drop 19 script_rows)

end : List Row
unfolding script_rows
end = drop 34 script_rows

ranges-are-rows : RANGES ≡ map numbered (start ++ (low ++ (high ++ end)))
unfolding numbered start high low end script_rows
ranges-are-rows = refl

rows-are : script_rows ≡ start ++ (high ++ (low ++ end))
unfolding start high low end script_rows
rows-are = refl

high-begins : begin_from 0xA9E0 high ≡ true
unfolding high script_rows
high-begins = refl

low-ends : end_below 0xA9E0 low ≡ true
unfolding low script_rows
low-ends = refl

number-of-found : (found : Option Row)
    → option_map_or (λ (range : ℕ × ℕ × ℕ). range.2) (option_map numbered found) 0 ≡ script_number (option_map_or (λ (row : Row). row.2) found NoScript)
unfolding numbered
number-of-found None = refl
number-of-found (Some row) = refl

-- the number of a code point's script is its value by the ranges
pub value-is-script : (code_point : ℕ) → tables.value_of (tables.table RANGES 0) code_point ≡ script_number (script_of code_point)
unfolding tables.value_of script_of
value-is-script code_point =
    let value = λ (found : Option (ℕ × ℕ × ℕ)). option_map_or (λ range. range.2) found 0 in
    ap (λ (ranges : List (ℕ × ℕ × ℕ)). value (find (tables.holds code_point) ranges)) ranges-are-rows
    ∙ ap value (find-numbered code_point (start ++ (low ++ (high ++ end))))
    ∙ number-of-found _
    ∙ ap (λ (found : Option Row). script_number (option_map_or (λ (row : Row). row.2) found NoScript))
    (swapped 0xA9E0 start high low end high-begins low-ends code_point ∙ ap (find (row_holds code_point)) (sym rows-are))

-- a row that holds a code point, where none before it does

at-row : (before : List Row) (row : Row) (after : List Row) (code_point : ℕ) → find (row_holds code_point) before ≡ None → row.0 ≤ code_point → code_point ≤ row.1
    → find (row_holds code_point) (before ++ (row ∷ after)) ≡ Some row
at-row before row after code_point none low high =
    find-append (row_holds code_point) before (row ∷ after)
    ∙ rw none (ap (λ b. cond b (Some row) (find (row_holds code_point) after)) (and_from (nat_le row.0 code_point) (nat_le code_point row.1) (le-leb _ _ low) (le-leb _ _ high)))

script-at : (row : Row) (code_point : ℕ) → find (row_holds code_point) script_rows ≡ Some row → script_of code_point ≡ row.2
unfolding script_of
script-at row code_point found = rw found refl

-- letters of Thai, its signs, and ideographs

thai_letters : Row
thai_letters = (0x0E01, 0x0E3A, Thai)

thai_signs : Row
thai_signs = (0x0E40, 0x0E4E, Thai)

ideographs : Row
ideographs = (0x4E00, 0x9FFF, ChineseOrJapanese)

lower : List Row
unfolding script_rows
lower = take 14 (drop 19 script_rows)

letters-are : script_rows ≡ thai_letters ∷ drop 1 script_rows
unfolding script_rows thai_letters
letters-are = refl

signs-are : script_rows ≡ (thai_letters ∷ []) ++ (thai_signs ∷ drop 2 script_rows)
unfolding script_rows thai_letters thai_signs
signs-are = refl

ideographs-are : script_rows ≡ (start ++ (high ++ lower)) ++ (ideographs ∷ end)
unfolding script_rows start high lower ideographs end
ideographs-are = refl

start-ends : end_below 0x4E00 start ≡ true
unfolding start script_rows
start-ends = refl

lower-ends : end_below 0x4E00 lower ≡ true
unfolding lower script_rows
lower-ends = refl

pub letter-is-thai : (code_point : ℕ) → 0x0E01 ≤ code_point → code_point ≤ 0x0E3A → script_of code_point ≡ Thai
unfolding thai_letters
letter-is-thai code_point first last =
    script-at thai_letters code_point (ap (find (row_holds code_point)) letters-are ∙ at-row [] thai_letters (drop 1 script_rows) code_point refl first last)

pub sign-is-thai : (code_point : ℕ) → 0x0E40 ≤ code_point → code_point ≤ 0x0E4E → script_of code_point ≡ Thai
unfolding thai_letters thai_signs
sign-is-thai code_point first last =
    script-at thai_signs code_point
    (ap (find (row_holds code_point)) signs-are ∙ at-row (thai_letters ∷ []) thai_signs (drop 2 script_rows) code_point (past-none 0x0E40 code_point (thai_letters ∷ []) refl first) first last)

pub ideograph-is-chinese : (code_point : ℕ) → 0x4E00 ≤ code_point → code_point ≤ 0x9FFF → script_of code_point ≡ ChineseOrJapanese
unfolding ideographs
ideograph-is-chinese code_point first last =
    script-at ideographs code_point (ap (find (row_holds code_point)) ideographs-are ∙ at-row (start ++ (high ++ lower)) ideographs end code_point none first last)
  where
    none : find (row_holds code_point) (start ++ (high ++ lower)) ≡ None
    none =
        find-append (row_holds code_point) start (high ++ lower)
        ∙ rw (past-none 0x4E00 code_point start start-ends first)
        (find-append (row_holds code_point) high lower
        ∙ rw (before-none 0xA9E0 code_point high high-begins (omega arith)) (past-none 0x4E00 code_point lower lower-ends first))
