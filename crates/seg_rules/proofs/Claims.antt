-- What is owed, as a part of what is claimed, entry by entry.
use Rattle.std.specs.Prelude.{◌≡◌, ℕ, zero, suc, ◌+◌, ◌-◌, ◌<◌, ◌≤◌, Bool, true, false, List, [], ◌∷◌, length, map, drop, get_or, if◌then◌else◌, not, ◌&&◌, ◌==◌}
use Rattle.std.proofs.Common.{arith, refl, sym, ap, ◌∙◌, eq-eqb}
use Rattle.std.proofs.lemmas.Bool.{cond-true, cond-false}
use Rattle.std.proofs.lemmas.List.{drop_more, drop_all, length-map, length-drop}
use Rattle.seg_rules.specs.declared.certificate.Entry.{Entry as GivenEntry}
use Rattle.seg_rules.specs.declared.rules.Row.{Row as GivenRow}
use Rattle.seg_rules.specs.Check.{get}
use Rattle.seg_rules.specs.declared.dues.Part.{Part}
use Rattle.seg_rules.specs.RowRules.{Row, RowRules, Entry, Owed, Due, DueOf, Reading, Decides, Stays, begun, flow, is_full, no_flags, onto, owed_rows, has, is_live, once, once_flags, reading, read_all, Drops, put, put_on, verdict_of_entry}
use Rattle.seg_rules.specs.Given.{entry_of, flags_by, lives_by, no_row, owed_of, row_of}
use Rattle.seg_rules.specs.Claims.{IsLast, reading_by}
use Rattle.seg_rules.proofs.Bits.{none_live, once_is}
use Rattle.seg_rules.proofs.Soundness.{neq-eqb}
use Rattle.seg_rules.proofs.Verdicts.{flags-once}

-- an entry that says what comes without it is left out
pub put-drops : (rules : RowRules) (claim : List GivenEntry) (part : Part) (entry : Entry) (due : Due)
    → verdict_of_entry entry ≡ part.otherwise → part.matched ≡ 0 → IsLast rules claim part due → IsLast rules claim part (put entry due)
unfolding put put_on
put-drops rules claim part entry due same none last =
    let nothing : map (entry_of rules) (drop (length claim - part.matched) claim) ≡ [] =
    ap (map (entry_of rules)) (drop_all (length claim - part.matched) claim (omega (arith, none))) in
    record {
      within = last.within;
      is = ap (put entry) (last.is ∙ ap (λ es. DueOf es part.otherwise) nothing) ∙ cond-true _ _ _ (eq-eqb _ _ same) ∙ ap (λ es. DueOf es part.otherwise) (sym nothing);
    }

put-on-adds : (entry : Entry) (entries : List Entry) (otherwise : ℕ) → (length entries ≡ 0 → verdict_of_entry entry ≡ otherwise → ⊥)
    → put_on entry entries otherwise ≡ DueOf (entry ∷ entries) otherwise
unfolding put_on
put-on-adds entry [] otherwise apart = cond-false _ _ _ (neq-eqb _ _ (apart refl))
put-on-adds entry (e ∷ entries) otherwise apart = refl

-- an entry that is next in the claim is added
pub put-adds : (rules : RowRules) (claim : List GivenEntry) (matched otherwise : ℕ) (given d : GivenEntry) (due : Due)
    → (matched ≡ 0 → verdict_of_entry (entry_of rules given) ≡ otherwise → ⊥) → matched < length claim
    → get_or claim (length claim - 1 - matched) d ≡ given → IsLast rules claim (record { matched = matched; otherwise = otherwise }) due
    → IsLast rules claim (record { matched = matched + 1; otherwise = otherwise }) (put (entry_of rules given) due)
unfolding put
put-adds rules claim matched otherwise given d due apart more same last =
    let entry = entry_of rules given in
    let at = length claim - 1 - matched in
    let entries = map (entry_of rules) (drop (length claim - matched) claim) in
    let many : length entries ≡ matched =
    length-map (drop (length claim - matched) claim) (entry_of rules) ∙ length-drop (length claim - matched) claim ∙ omega (arith, more) in
    let next : at + 1 ≡ length claim - matched = omega (arith, more) in
    let here : length claim - (matched + 1) ≡ at = omega (arith, more) in
    let first : drop (length claim - (matched + 1)) claim ≡ given ∷ drop (length claim - matched) claim =
    ap (λ n. drop n claim) here ∙ drop_more claim at d (omega (arith, more)) ∙ (λ i. same i ∷ drop (next i) claim) in
    record {
      within = omega (arith, more);
      is = ap (put entry) last.is ∙ put-on-adds entry entries otherwise (λ none. apart (sym many ∙ none))
          ∙ ap (λ given. DueOf (map (entry_of rules) given) otherwise) (sym first);
    }

-- nothing is owed but a verdict
pub decided-last : (rules : RowRules) (claim : List GivenEntry) (verdict : ℕ) → IsLast rules claim (record { matched = 0; otherwise = verdict }) (DueOf [] verdict)
decided-last rules claim verdict =
    record {
      within = omega arith;
      is = ap (λ given. DueOf (map (entry_of rules) given) verdict) (sym (drop_all (length claim - 0) claim (omega arith)));
    }

-- what a row owes: nothing, where its left pattern isn't full; its verdict, where its right one is; and else an entry
pub owes-nothing : (below whole : Bool) (row : Row) (due : Due) → whole ≡ false → onto (begun below row whole) due ≡ due
unfolding begun onto
owes-nothing below true row due is = let no : true ≡ false = is in cc
owes-nothing below false row due is = refl

abbrev begun_by : Bool → Row → List Bool → Reading
begun_by below row start = if is_full start then Decides row.verdict else Stays (Owed row.right start row.verdict below)

begun-is : (below whole : Bool) (row : Row) (start : ℕ) → whole ≡ true → flags_by row.right start ≡ flow true row.right (flags_by row.right 0) 0
    → begun below row whole ≡ begun_by below row (flags_by row.right start)
unfolding begun
begun-is below false row start is value = let no : false ≡ true = is in cc
begun-is below true row start is value =
    flags-once (flow true row.right (no_flags row.right) 0) _
    ∙ ap (λ none. begun_by below row (flow true row.right none 0)) (sym (none_live row.right)) ∙ ap (begun_by below row) (sym value)

pub owes-verdict : (below whole : Bool) (row : Row) (start : ℕ) (due : Due) → whole ≡ true
    → flags_by row.right start ≡ flow true row.right (flags_by row.right 0) 0 → is_full (flags_by row.right start) ≡ true
    → DueOf [] row.verdict ≡ onto (begun below row whole) due
unfolding onto
owes-verdict below whole row start due is value full =
    sym (ap (λ r. onto r due) (begun-is below whole row start is value ∙ cond-true (is_full (flags_by row.right start)) _ _ full))

pub owes-entry : (below whole : Bool) (row : Row) (start : ℕ) (due : Due) → whole ≡ true
    → flags_by row.right start ≡ flow true row.right (flags_by row.right 0) 0 → is_full (flags_by row.right start) ≡ false
    → put (owed_of below row start) due ≡ onto (begun below row whole) due
unfolding onto
owes-entry below whole row start due is value more =
    sym (ap (λ r. onto r due) (begun-is below whole row start is value ∙ cond-false (is_full (flags_by row.right start)) _ _ more))

-- what a read past the rows would give
abbrev pub default_row : GivenRow
default_row = record { left = record { ref_ptr = (0, 0); now = [] }; right = record { ref_ptr = (0, 0); now = [] }; verdict = 0 }

pub get-mapped : {X Y : Type 0} (f : X → Y) (e : Y) (xs : List X) (i : ℕ) (d : X) → i < length xs → f (get_or xs i d) ≡ get e (map f xs) i
unfolding get
get-mapped f e [] i d within = absurd (omega (arith, within))
get-mapped f e (x ∷ xs) zero d within = refl
get-mapped f e (x ∷ xs) (suc i) d within = get-mapped f e xs i d (omega (arith, within))

pub get-mapped-past : {X Y : Type 0} (f : X → Y) (e : Y) (xs : List X) (i : ℕ) → length xs ≤ i → e ≡ get e (map f xs) i
unfolding get
get-mapped-past f e [] i past = refl
get-mapped-past f e (x ∷ xs) zero past = absurd (omega (arith, past))
get-mapped-past f e (x ∷ xs) (suc i) past = get-mapped-past f e xs i (omega (arith, past))

pub get-map : (rows : List GivenRow) (i : ℕ) (d : GivenRow) → i < length rows → row_of (get_or rows i d) ≡ get no_row (map row_of rows) i
get-map = get-mapped row_of no_row

-- what rows owe, by what is live of their left patterns
abbrev pub owed_by : Bool → List GivenRow → List ℕ → Due → Due
owed_by below rows lives due = owed_rows below (map row_of rows) (lives_by (map row_of rows) lives) due

pub owed-none : (below : Bool) (rows : List GivenRow) (lives : List ℕ) (due : Due) (i : ℕ) → i ≡ length rows → owed_by below (drop i rows) (drop i lives) due ≡ due
unfolding owed_rows
owed-none below rows lives due i is = ap (λ rest. owed_by below rest (drop i lives) due) (drop_all i rows (omega (arith, is)))

owed-one : (below : Bool) (row : GivenRow) (rows : List GivenRow) (here : ℕ) (lives : List ℕ) (due : Due)
    → owed_by below (row ∷ rows) (here ∷ lives) due ≡ onto (begun below (row_of row) (is_full (flags_by row.left.now here))) (owed_by below rows lives due)
unfolding owed_rows lives_by
owed-one below row rows here lives due = refl

pub owed-step : (below : Bool) (rows : List GivenRow) (lives : List ℕ) (due : Due) (i : ℕ) (d : GivenRow) → i < length rows → i < length lives
    → owed_by below (drop i rows) (drop i lives) due
    ≡ onto (begun below (row_of (get_or rows i d)) (is_full (flags_by (get_or rows i d).left.now (get_or lives i 0)))) (owed_by below (drop (i + 1) rows) (drop (i + 1) lives) due)
owed-step below rows lives due i d in_rows in_lives =
    ap (λ rows. owed_by below rows (drop i lives) due) (drop_more rows i d in_rows)
    ∙ ap (λ lives. owed_by below (get_or rows i d ∷ drop (i + 1) rows) lives due) (drop_more lives i 0 in_lives)
    ∙ owed-one below (get_or rows i d) (drop (i + 1) rows) (get_or lives i 0) (drop (i + 1) lives) due

-- what becomes of an entry above that of marks, of one below it that a glued mark leaves, and of another one below
pub above-reading : (rules : RowRules) (glues : Bool) (x : ℕ) (row : Row) (live : ℕ)
    → reading rules glues x (owed_of false row live) ≡ reading_by false row (flow false row.right (flags_by row.right live) x) (x == 0)
unfolding reading once
above-reading rules glues x row live = flags-once (flow false row.right (flags_by row.right live) x) _

abbrev pub below_reading : RowRules → Bool → ℕ → Row → ℕ → Bool → Reading
below_reading rules glues x row live mark =
    if mark && glues
    then Stays (owed_of true row live)
    else once_flags (flow false row.right (flags_by row.right live) (if mark then rules.alone else x)) (λ next.
    if is_full next then Decides row.verdict else (if is_live next && not (x == 0) then Stays (Owed row.right next row.verdict true) else Drops))

pub stuck-reading : (rules : RowRules) (glues : Bool) (x : ℕ) (row : Row) (live : ℕ) → has rules.marks x ≡ true → glues ≡ true
    → Stays (owed_of true row live) ≡ reading rules glues x (owed_of true row live)
unfolding reading once
stuck-reading rules false x row live mark is = let no : false ≡ true = is in cc
stuck-reading rules true x row live mark is = sym (ap (λ m. once m (below_reading rules true x row live)) mark)

pub below-reading : (rules : RowRules) (glues : Bool) (x : ℕ) (row : Row) (live : ℕ) → (has rules.marks x && glues) ≡ false
    → reading_by true row (flow false row.right (flags_by row.right live) (if has rules.marks x then rules.alone else x)) (x == 0)
    ≡ reading rules glues x (owed_of true row live)
unfolding reading
below-reading rules glues x row live free =
    sym (once_is (has rules.marks x) (below_reading rules glues x row live) ∙ cond-false (has rules.marks x && glues) _ _ free
    ∙ flags-once (flow false row.right (flags_by row.right live) (if has rules.marks x then rules.alone else x)) _)

-- what is read of entries, from the last on
abbrev pub read_by : RowRules → Bool → ℕ → List GivenEntry → ℕ → Due
read_by rules glues x entries otherwise = read_all rules glues x (map (entry_of rules) entries) otherwise

pub read-none : (rules : RowRules) (glues : Bool) (x : ℕ) (entries : List GivenEntry) (otherwise i : ℕ) → i ≡ length entries
    → read_by rules glues x (drop i entries) otherwise ≡ DueOf [] otherwise
unfolding read_all
read-none rules glues x entries otherwise i is = ap (λ rest. read_by rules glues x rest otherwise) (drop_all i entries (omega (arith, is)))

pub read-step : (rules : RowRules) (glues : Bool) (x : ℕ) (entries : List GivenEntry) (otherwise i : ℕ) (d : GivenEntry) → i < length entries
    → read_by rules glues x (drop i entries) otherwise
    ≡ onto (reading rules glues x (entry_of rules (get_or entries i d))) (read_by rules glues x (drop (i + 1) entries) otherwise)
unfolding read_all
read-step rules glues x entries otherwise i d within = ap (λ rest. read_by rules glues x rest otherwise) (drop_more entries i d within)
