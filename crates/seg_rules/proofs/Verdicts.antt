-- What the check works with, flags and what is owed, gives the verdict of the rules in plain words.
use Rattle.std.specs.Prelude.{◌≡◌, ℕ, suc, ◌-◌, ◌<◌, Bool, true, false, not, ◌&&◌, ◌||◌, ◌==◌, if◌then◌else◌, List, [], ◌∷◌, ◌++◌}
use Rattle.std.proofs.Common.{arith, refl, sym, ap, ap₂, ◌∙◌, inl, inr, eqb-true}
use Rattle.std.proofs.lemmas.Bool.{and_left, and_right, cond-true, cond-false}
use Rattle.seg_rules.specs.declared.rules.Count.TheVariants.{One, Optional, Star, Pairs}
use Rattle.seg_rules.specs.RowRules.{Pattern, Row, RowRules, Before, Entry, Marks, Owed, Due, DueOf, has, once, once_flags, flow, no_flags, is_full, is_live, moved, unread, moves_on, verdict_of_entry, put_on, put, Reading, Decides, Stays, Drops, onto, begun, owed_rows, owed, reading, read_all, read, decided, verdict, before}
use Rattle.seg_text.specs.Boundaries.{boundary}
use Rattle.seg_rules.specs.Patterns.{flags, left_flags, right_flags}
use Rattle.seg_rules.specs.Places.{verdict_at, places}
use Rattle.seg_rules.specs.Plain.{left_fits, right_fits, first_row, is_base, unmarked, bases_before, bases_after, is_marked, plain_verdict, plain_places}
use Rattle.seg_rules.proofs.StepLemmas.{once-is}
use Rattle.seg_rules.proofs.Soundness.{bool-cases, neq-eqb}
use Rattle.seg_rules.proofs.Scans.{Symbols}

-- ---- flags without effect

pub flags-once : {X : Type 0} (live : List Bool) (f : List Bool → X) → once_flags live f ≡ f live
unfolding once_flags
flags-once [] f = refl
flags-once (true ∷ live) f = flags-once live (λ rest. f (true ∷ rest))
flags-once (false ∷ live) f = flags-once live (λ rest. f (false ∷ rest))

dead-flow : (items : Pattern) (live : List Bool) (x : ℕ) → is_live live ≡ false → is_live (flow false items live x) ≡ false
unfolding flow is_live once
dead-flow [] live x h = refl
dead-flow ((class, One) ∷ items) [] x h = refl
dead-flow ((class, One) ∷ items) (true ∷ live) x h = let no : false ≡ true = sym h in cc
dead-flow ((class, One) ∷ items) (false ∷ live) x h = dead-flow items live x h
dead-flow ((class, Optional) ∷ items) [] x h = refl
dead-flow ((class, Optional) ∷ items) (true ∷ live) x h = let no : false ≡ true = sym h in cc
dead-flow ((class, Optional) ∷ items) (false ∷ live) x h = dead-flow items live x h
dead-flow ((class, Star) ∷ items) [] x h = refl
dead-flow ((class, Star) ∷ items) (true ∷ live) x h = let no : false ≡ true = sym h in cc
dead-flow ((class, Star) ∷ items) (false ∷ live) x h = dead-flow items live x h
dead-flow ((class, Pairs) ∷ items) [] x h = refl
dead-flow ((class, Pairs) ∷ items) (b ∷ []) x h = refl
dead-flow ((class, Pairs) ∷ items) (true ∷ (half ∷ live)) x h = let no : false ≡ true = sym h in cc
dead-flow ((class, Pairs) ∷ items) (false ∷ (true ∷ live)) x h = let no : false ≡ true = sym h in cc
dead-flow ((class, Pairs) ∷ items) (false ∷ (false ∷ live)) x h = dead-flow items live x h

dead-full : (live : List Bool) → is_live live ≡ false → is_full live ≡ false
unfolding is_live is_full
dead-full [] h = refl
dead-full (true ∷ live) h = let no : false ≡ true = sym h in cc
dead-full (false ∷ []) h = refl
dead-full (false ∷ (b ∷ live)) h = dead-full (b ∷ live) h

-- what is live fits what comes
unfoldable pub fits_on : Pattern → List Bool → List ℕ → Bool
fits_on pattern live [] = false
fits_on pattern live (y ∷ ys) = is_full (flow false pattern live y) || fits_on pattern (flow false pattern live y) ys

pub dead-fits : (pattern : Pattern) (live : List Bool) (ys : List ℕ) → is_live live ≡ false → fits_on pattern live ys ≡ false
unfolding fits_on
dead-fits pattern live [] h = refl
dead-fits pattern live (y ∷ ys) h =
    let next = dead-flow pattern live y h in
    ap₂ ◌||◌ (dead-full (flow false pattern live y) next) (dead-fits pattern (flow false pattern live y) ys next)

or-none : (b : Bool) → b ≡ (b || false)
or-none true = refl
or-none false = refl

pub right-fits-on : (pattern : Pattern) (were_read ys : List ℕ)
    → right_fits pattern were_read ys ≡ (is_full (right_flags pattern were_read) || fits_on pattern (right_flags pattern were_read) ys)
unfolding right_fits fits_on flags
right-fits-on pattern were_read [] = or-none _
right-fits-on pattern were_read (y ∷ ys) = ap (λ b. is_full (right_flags pattern were_read) || b) (right-fits-on pattern (y ∷ were_read) ys)

module _ (rules : RowRules) where
  -- ---- the value of what is owed, of the symbols that come

  right_text : Bool → Bool → List ℕ → List ℕ
  right_text true base rest = bases_after rules base rest
  right_text false base rest = rest ++ (0 ∷ [])

  holds : Bool → List ℕ → Entry → Bool
  holds base rest Marks = is_marked rules base rest
  holds base rest (Owed right live v below) = fits_on right live (right_text below base rest)

  value : Bool → List ℕ → List Entry → ℕ → ℕ
  value base rest [] otherwise = otherwise
  value base rest (entry ∷ entries) otherwise = if holds base rest entry then verdict_of_entry entry else value base rest entries otherwise

  value_due : Bool → List ℕ → Due → ℕ
  value_due base rest (DueOf entries otherwise) = value base rest entries otherwise

  same-branches : (b : Bool) (v : ℕ) → v ≡ (if b then v else v)
  same-branches true v = refl
  same-branches false v = refl

  put-value : (base : Bool) (rest : List ℕ) (entry : Entry) (d : Due)
      → value_due base rest (put entry d) ≡ (if holds base rest entry then verdict_of_entry entry else value_due base rest d)
  unfolding value value_due put put_on
  put-value base rest entry (DueOf [] otherwise) =
      elim (bool-cases (verdict_of_entry entry == otherwise)) [
        | inl same ↦
            ap (value_due base rest) (cond-true _ _ _ same)
            ∙ same-branches (holds base rest entry) otherwise
            ∙ ap (λ v. if holds base rest entry then v else otherwise) (sym (eqb-true _ _ same))
        | inr other ↦ ap (value_due base rest) (cond-false _ _ _ other)
      ]
  put-value base rest entry (DueOf (e ∷ entries) otherwise) = refl

  abbrev reading_value : Bool → List ℕ → Reading → ℕ → ℕ
  reading_value base rest (Decides v) further = v
  reading_value base rest (Stays entry) further = if holds base rest entry then verdict_of_entry entry else further
  reading_value base rest Drops further = further

  onto-value : (base : Bool) (rest : List ℕ) (r : Reading) (d : Due) → value_due base rest (onto r d) ≡ reading_value base rest r (value_due base rest d)
  unfolding onto value value_due
  onto-value base rest (Decides v) d = refl
  onto-value base rest (Stays entry) d = put-value base rest entry d
  onto-value base rest Drops d = refl

  -- ---- an entry, after a symbol

  abbrev next_reading : ℕ → Pattern → List Bool → ℕ → ℕ → Bool → Reading
  next_reading x right live y v below =
      if is_full (flow false right live y)
      then Decides v
      else (if is_live (flow false right live y) && not (x == 0) then Stays (Owed right (flow false right live y) v below) else Drops)

  next-value : (base : Bool) (rest : List ℕ) (x : ℕ) (right : Pattern) (live : List Bool) (y v : ℕ) (below : Bool) (further : ℕ) → (x == 0) ≡ false
      → reading_value base rest (next_reading x right live y v below) further
      ≡ (if fits_on right live (y ∷ right_text below base rest) then v else further)
  unfolding fits_on holds
  next-value base rest x right live y v below further nonzero =
      let next = flow false right live y in
      let ys = right_text below base rest in
      elim (bool-cases (is_full next)) [
        | inl full ↦
            ap (λ r. reading_value base rest r further) (cond-true _ _ _ full)
            ∙ sym (cond-true _ _ _ (ap (λ b. b || fits_on right next ys) full))
        | inr partial ↦
            ap (λ r. reading_value base rest r further) (cond-false _ _ _ partial)
            ∙ elim (bool-cases (is_live next)) [
              | inl alive ↦
                  ap (λ r. reading_value base rest r further) (cond-true _ _ _ (ap₂ (λ a b. a && not b) alive nonzero))
                  ∙ ap (λ b. if b || fits_on right next ys then v else further) (sym partial)
              | inr dead ↦
                  ap (λ r. reading_value base rest r further) (cond-false _ _ _ (and_left _ _ dead))
                  ∙ sym (cond-false _ _ _ (ap₂ ◌||◌ partial (dead-fits right next ys dead)))
            ]
      ]

  -- whether a mark would be one with what stands before it, after a symbol
  abbrev base_after : Bool → ℕ → Bool
  base_after base x = (has rules.marks x && base) || (rules.has_marks && not (has rules.bare x))

  reading-below : (base : Bool) (x : ℕ) (rest : List ℕ) (right : Pattern) (live : List Bool) (v further : ℕ) → (x == 0) ≡ false
      → reading_value (base_after base x) rest (reading rules base x (Owed right live v true)) further
      ≡ (if fits_on right live (bases_after rules base (x ∷ rest)) then v else further)
  unfolding reading bases_after holds right_text
  reading-below base x rest right live v further nonzero =
      let next_base = base_after base x in
      let y = unmarked rules x in
      ap (λ r. reading_value next_base rest r further) (once-is (has rules.marks x) _)
      ∙ elim (bool-cases (has rules.marks x && base)) [
        | inl one ↦
            ap (λ r. reading_value next_base rest r further) (cond-true _ _ _ one)
            ∙ ap (λ ys. if fits_on right live ys then v else further) (sym (cond-true _ (bases_after rules next_base rest) _ one))
        | inr apart ↦
            ap (λ r. reading_value next_base rest r further) (cond-false _ _ _ apart ∙ flags-once (flow false right live y) _)
            ∙ next-value next_base rest x right live y v true further nonzero
            ∙ ap (λ ys. if fits_on right live ys then v else further) (sym (cond-false _ (bases_after rules next_base rest) _ apart))
      ]

  reading-above : (base next_base : Bool) (x : ℕ) (rest : List ℕ) (right : Pattern) (live : List Bool) (v further : ℕ) → (x == 0) ≡ false
      → reading_value next_base rest (reading rules base x (Owed right live v false)) further
      ≡ (if fits_on right live ((x ∷ rest) ++ (0 ∷ [])) then v else further)
  unfolding reading right_text once
  reading-above base next_base x rest right live v further nonzero =
      ap (λ r. reading_value next_base rest r further) (flags-once (flow false right live x) _)
      ∙ next-value next_base rest x right live x v false further nonzero

  reading-step : (base : Bool) (x : ℕ) (rest : List ℕ) (entry : Entry) (further : ℕ) → (x == 0) ≡ false
      → reading_value (base_after base x) rest (reading rules base x entry) further
      ≡ (if holds base (x ∷ rest) entry then verdict_of_entry entry else further)
  unfolding reading holds right_text
  reading-step base x rest Marks further nonzero =
      elim (bool-cases (has rules.marks x && base)) [
        | inl one ↦ ap (λ r. reading_value (base_after base x) rest r further) (cond-true _ _ _ one) ∙ sym (cond-true _ _ _ one)
        | inr apart ↦ ap (λ r. reading_value (base_after base x) rest r further) (cond-false _ _ _ apart) ∙ sym (cond-false _ _ _ apart)
      ]
  reading-step base x rest (Owed right live v true) further nonzero = reading-below base x rest right live v further nonzero
  reading-step base x rest (Owed right live v false) further nonzero = reading-above base (base_after base x) x rest right live v further nonzero

  read-value : (base : Bool) (x : ℕ) (rest : List ℕ) (entries : List Entry) (otherwise : ℕ) → (x == 0) ≡ false
      → value_due (base_after base x) rest (read_all rules base x entries otherwise) ≡ value base (x ∷ rest) entries otherwise
  unfolding read_all value value_due
  read-value base x rest [] otherwise nonzero = refl
  read-value base x rest (entry ∷ entries) otherwise nonzero =
      onto-value (base_after base x) rest (reading rules base x entry) (read_all rules base x entries otherwise)
      ∙ ap (reading_value (base_after base x) rest (reading rules base x entry)) (read-value base x rest entries otherwise nonzero)
      ∙ reading-step base x rest entry (value base (x ∷ rest) entries otherwise) nonzero

  -- ---- at the end

  end-next : (right : Pattern) (live : List Bool) (y v : ℕ) (below : Bool) (d : Due)
      → decided (onto (next_reading 0 right live y v below) d) ≡ (if fits_on right live (y ∷ []) then v else decided d)
  unfolding fits_on onto
  end-next right live y v below d =
      let next = flow false right live y in
      elim (bool-cases (is_full next)) [
        | inl full ↦
            ap (λ r. decided (onto r d)) (cond-true _ _ _ full) ∙ sym (cond-true _ _ _ (ap (λ b. b || false) full))
        | inr partial ↦
            ap (λ r. decided (onto r d)) (cond-false _ _ _ partial ∙ cond-false _ _ _ (and_right (is_live next) false refl))
            ∙ sym (cond-false _ _ _ (ap (λ b. b || false) partial))
      ]

  end-step : (base : Bool) (entry : Entry) (d : Due)
      → decided (onto (reading rules false 0 entry) d) ≡ (if holds base [] entry then verdict_of_entry entry else decided d)
  unfolding reading holds right_text bases_after onto once
  end-step base Marks d = ap (λ r. decided (onto r d)) (cond-false _ _ _ (and_right (has rules.marks 0) false refl))
  end-step base (Owed right live v true) d =
      ap (λ r. decided (onto r d))
      (once-is (has rules.marks 0) _ ∙ cond-false _ _ _ (and_right (has rules.marks 0) false refl) ∙ flags-once (flow false right live (unmarked rules 0)) _)
      ∙ end-next right live (unmarked rules 0) v true d
  end-step base (Owed right live v false) d =
      ap (λ r. decided (onto r d)) (flags-once (flow false right live 0) _) ∙ end-next right live 0 v false d

  end-value : (base : Bool) (entries : List Entry) (otherwise : ℕ) → decided (read_all rules false 0 entries otherwise) ≡ value base [] entries otherwise
  unfolding read_all value
  end-value base [] otherwise = refl
  end-value base (entry ∷ entries) otherwise =
      end-step base entry (read_all rules false 0 entries otherwise)
      ∙ ap (λ v. if holds base [] entry then verdict_of_entry entry else v) (end-value base entries otherwise)

  nonzero-symbol : (x : ℕ) → 0 < x → (x == 0) ≡ false
  nonzero-symbol x h = neq-eqb x 0 (λ e. absurd (omega (arith, h, e)))

  -- the verdict is the value of what is owed
  verdict-value : (n : ℕ) (s : Before) (d : Due) (rest : List ℕ) → Symbols n rest → verdict rules s d rest ≡ value_due s.glues rest d
  unfolding verdict read value_due moves_on
  verdict-value n s (DueOf entries otherwise) [] symbols = end-value s.glues entries otherwise
  verdict-value n s (DueOf entries otherwise) (x ∷ rest) symbols =
      verdict-value n (moves_on rules s x) (read_all rules s.glues x entries otherwise) rest symbols.1
      ∙ read-value s.glues x rest entries otherwise (nonzero-symbol x symbols.0.0)

  -- ---- what is owed to a place

  started : (base : Bool) (rest : List ℕ) (below : Bool) (row : Row) → right_fits row.right [] (right_text below base rest)
      ≡ (is_full (flow true row.right (no_flags row.right) 0) || fits_on row.right (flow true row.right (no_flags row.right) 0) (right_text below base rest))
  unfolding flags
  started base rest below row = right-fits-on row.right [] (right_text below base rest)

  staying : (base : Bool) (rest : List ℕ) (below : Bool) (row : Row) (further : ℕ)
      → reading_value base rest (Stays (Owed row.right (flow true row.right (no_flags row.right) 0) row.verdict below)) further
      ≡ (if fits_on row.right (flow true row.right (no_flags row.right) 0) (right_text below base rest) then row.verdict else further)
  unfolding holds
  staying base rest below row further = refl

  begun-value : (base : Bool) (rest : List ℕ) (below : Bool) (row : Row) (fits : Bool) (d : Due)
      → value_due base rest (onto (begun below row fits) d)
      ≡ (if fits && right_fits row.right [] (right_text below base rest) then row.verdict else value_due base rest d)
  unfolding begun onto
  begun-value base rest below row false d = refl
  begun-value base rest below row true d =
      let start = flow true row.right (no_flags row.right) 0 in
      let text = right_text below base rest in
      ap (λ r. value_due base rest (onto r d)) (flags-once start _)
      ∙ elim (bool-cases (is_full start)) [
        | inl full ↦
            ap (λ r. value_due base rest (onto r d)) (cond-true _ _ _ full)
            ∙ onto-value base rest (Decides row.verdict) d
            ∙ sym (cond-true _ _ _ (started base rest below row ∙ ap (λ b. b || fits_on row.right start text) full))
        | inr partial ↦
            ap (λ r. value_due base rest (onto r d)) (cond-false _ _ _ partial)
            ∙ onto-value base rest (Stays (Owed row.right start row.verdict below)) d
            ∙ staying base rest below row (value_due base rest d)
            ∙ ap (λ b. if b then row.verdict else value_due base rest d)
            (sym (started base rest below row ∙ ap (λ b. b || fits_on row.right start text) partial))
      ]

  lives_of : List Row → List ℕ → List (List Bool)
  lives_of [] text = []
  lives_of (row ∷ rows) text = left_flags row.left text ∷ lives_of rows text

  rows-value : (base : Bool) (rest : List ℕ) (below : Bool) (rows : List Row) (text : List ℕ) (d : Due)
      → value_due base rest (owed_rows below rows (lives_of rows text) d) ≡ first_row rows text (right_text below base rest) (value_due base rest d)
  unfolding owed_rows lives_of first_row
  rows-value base rest below [] text d = refl
  rows-value base rest below (row ∷ rows) text d =
      begun-value base rest below row (is_full (left_flags row.left text)) (owed_rows below rows (lives_of rows text) d)
      ∙ ap (λ v. if left_fits row.left text && right_fits row.right [] (right_text below base rest) then row.verdict else v)
      (rows-value base rest below rows text d)

  moved-lives : (rows : List Row) (text : List ℕ) (x : ℕ) → moved rows (lives_of rows text) x ≡ lives_of rows (x ∷ text)
  unfolding moved lives_of flags
  moved-lives [] text x = refl
  moved-lives (row ∷ rows) text x = ap (λ lives. left_flags row.left (x ∷ text) ∷ lives) (moved-lives rows text x)

  unread-lives : (rows : List Row) → unread rows ≡ lives_of rows (0 ∷ [])
  unfolding unread lives_of flags
  unread-lives [] = refl
  unread-lives (row ∷ rows) = ap (λ lives. left_flags row.left (0 ∷ []) ∷ lives) (unread-lives rows)

  -- what stands before a place
  before-above : (past : List ℕ) → (before rules past).above ≡ lives_of rules.above (past ++ (0 ∷ []))
  unfolding before moves_on
  before-above [] = unread-lives rules.above
  before-above (x ∷ past) = ap (λ lives. moved rules.above lives x) (before-above past) ∙ moved-lives rules.above (past ++ (0 ∷ [])) x

  before-glues : (past : List ℕ) → (before rules past).glues ≡ is_base rules past
  unfolding before moves_on is_base
  before-glues [] = refl
  before-glues (x ∷ past) = ap (λ g. (has rules.marks x && g) || (rules.has_marks && not (has rules.bare x))) (before-glues past)

  before-below : (past : List ℕ) → (before rules past).below ≡ lives_of rules.below (bases_before rules past)
  unfolding before moves_on bases_before
  before-below [] = unread-lives rules.below
  before-below (x ∷ past) =
      let glues = before-glues past in
      let y = unmarked rules x in
      ap₂ (λ g lives. if has rules.marks x && g then lives else moved rules.below lives y) glues (before-below past)
      ∙ elim (bool-cases (has rules.marks x && is_base rules past)) [
        | inl one ↦ cond-true _ _ _ one ∙ ap (lives_of rules.below) (sym (cond-true _ (bases_before rules past) _ one))
        | inr apart ↦
            cond-false _ _ _ apart ∙ moved-lives rules.below (bases_before rules past) y
            ∙ ap (lives_of rules.below) (sym (cond-false _ (bases_before rules past) _ apart))
      ]

  marks-value : (has_marks base : Bool) (rest : List ℕ) (d : Due)
      → value_due base rest (if has_marks then put Marks d else d) ≡ (if has_marks && is_marked rules base rest then 0 else value_due base rest d)
  unfolding holds
  marks-value true base rest d = put-value base rest Marks d
  marks-value false base rest d = refl

  none-value : (base : Bool) (rest : List ℕ) → value_due base rest (DueOf [] 0) ≡ 0
  unfolding value value_due
  none-value base rest = refl

  owed-value : (past rest : List ℕ) → value_due (is_base rules past) rest (owed rules (before rules past))
      ≡ first_row rules.above (past ++ (0 ∷ [])) (rest ++ (0 ∷ []))
      (if rules.has_marks && is_marked rules (is_base rules past) rest then 0
      else first_row rules.below (bases_before rules past) (bases_after rules (is_base rules past) rest) 0)
  unfolding owed right_text
  owed-value past rest =
      let base = is_base rules past in
      let lower = owed_rows true rules.below (lives_of rules.below (bases_before rules past)) (DueOf [] 0) in
      ap₂ (λ above below. value_due base rest (owed_rows false rules.above above
      (if rules.has_marks then put Marks (owed_rows true rules.below below (DueOf [] 0)) else owed_rows true rules.below below (DueOf [] 0))))
      (before-above past) (before-below past)
      ∙ rows-value base rest false rules.above (past ++ (0 ∷ [])) (if rules.has_marks then put Marks lower else lower)
      ∙ ap (first_row rules.above (past ++ (0 ∷ [])) (rest ++ (0 ∷ [])))
      (marks-value rules.has_marks base rest lower
      ∙ ap (λ v. if rules.has_marks && is_marked rules base rest then 0 else v)
      (rows-value base rest true rules.below (bases_before rules past) (DueOf [] 0)
      ∙ ap (first_row rules.below (bases_before rules past) (bases_after rules base rest)) (none-value base rest)))

  -- Law: the verdict on a place is that of the rules in plain words
  pub verdict-plain : (n : ℕ) (past rest : List ℕ) → Symbols n rest → verdict_at rules past rest ≡ plain_verdict rules past rest
  unfolding plain_verdict
  verdict-plain n past [] symbols = refl
  verdict-plain n past (x ∷ rest) symbols =
      verdict-value n (before rules past) (owed rules (before rules past)) (x ∷ rest) symbols
      ∙ ap (λ g. value_due g (x ∷ rest) (owed rules (before rules past))) (before-glues past)
      ∙ owed-value past (x ∷ rest)

  -- Law: and so are all places
  pub places-plain : (n k : ℕ) (past rest : List ℕ) → Symbols n rest → places rules k past rest ≡ plain_places rules k past rest
  unfolding places plain_places
  places-plain n k past [] symbols = refl
  places-plain n k past (x ∷ rest) symbols =
      ap₂ (λ here further. if here == 0 then further else boundary (suc k) (here - 1) ∷ further)
      (verdict-plain n (x ∷ past) rest symbols.1) (places-plain n (suc k) (x ∷ past) rest symbols.1)
