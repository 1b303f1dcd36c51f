-- What the tests of the tables say: the numbers of the tables go on as what they mean does.
use Rattle.std.specs.Prelude.{◌≡◌, ℕ, zero, suc, ◌+◌, ◌-◌, ◌<◌, Bool, true, false, ◌&&◌, ◌==◌, nat_lt, if◌then◌else◌, List, [], ◌∷◌, length}
use Rattle.std.proofs.Common.{arith, refl, sym, ap, ap₂, ◌∙◌, eqb-true, ltb-true, le-ltb}
use Rattle.std.proofs.lemmas.Bool.{and_parts, cond-false}
use Rattle.seg_rules.proofs.Truths.{same_from_beq}
use Rattle.seg_rules.specs.declared.rules.Count.TheVariants.{One, Optional, Star, Pairs}
use Rattle.seg_rules.specs.declared.rules.Count.{Count}
use Rattle.seg_rules.specs.RowRules.{Pattern, RowRules, Before, Entry, Marks, Owed, Due, DueOf, at_start, moves_on, owed, due_after, once_number}
use Rattle.seg_rules.specs.Check.{Tables, get, no_before, no_due, same_flags, same_lives, same_before, count_number, same_pattern, same_entry, same_entries, same_due, numbers, moves_hold, befores_hold, reads_hold, dues_hold, append_dues, verdicts, all_below, rows_below, tables_hold}

-- ---- what passes a test of equality is equal

flags-equal : (a b : List Bool) → same_flags a b ≡ true → a ≡ b
unfolding same_flags
flags-equal [] [] h = refl
flags-equal [] (y ∷ ys) h = let no : false ≡ true = h in cc
flags-equal (x ∷ xs) [] h = let no : false ≡ true = h in cc
flags-equal (x ∷ xs) (y ∷ ys) h = let p = and_parts _ _ h in ap₂ ◌∷◌ (same_from_beq x y p.0) (flags-equal xs ys p.1)

lives-equal : (a b : List (List Bool)) → same_lives a b ≡ true → a ≡ b
unfolding same_lives
lives-equal [] [] h = refl
lives-equal [] (y ∷ ys) h = let no : false ≡ true = h in cc
lives-equal (x ∷ xs) [] h = let no : false ≡ true = h in cc
lives-equal (x ∷ xs) (y ∷ ys) h = let p = and_parts _ _ h in ap₂ ◌∷◌ (flags-equal x y p.0) (lives-equal xs ys p.1)

pub before-equal : (a b : Before) → same_before a b ≡ true → a ≡ b
before-equal a b h =
    let p = and_parts _ _ h in
    let r = and_parts _ _ p.1 in
    let p1 = lives-equal a.above b.above p.0 in
    let p2 = lives-equal a.below b.below r.0 in
    let p3 = same_from_beq a.glues b.glues r.1 in
    λ i. record { above = p1 i; below = p2 i; glues = p3 i }

abbrev count_of : ℕ → Count
count_of n = if n == 0 then One else (if n == 1 then Optional else (if n == 2 then Star else Pairs))

of-number : (c : Count) → count_of (count_number c) ≡ c
of-number One = refl
of-number Optional = refl
of-number Star = refl
of-number Pairs = refl

pattern-equal : (a b : Pattern) → same_pattern a b ≡ true → a ≡ b
unfolding same_pattern
pattern-equal [] [] h = refl
pattern-equal [] (y ∷ ys) h = let no : false ≡ true = h in cc
pattern-equal (x ∷ xs) [] h = let no : false ≡ true = h in cc
pattern-equal ((a, m) ∷ xs) ((b, n) ∷ ys) h =
    let p = and_parts _ _ h in
    let r = and_parts _ _ p.1 in
    let counts : m ≡ n = sym (of-number m) ∙ ap count_of (eqb-true _ _ r.0) ∙ of-number n in
    let one = eqb-true a b p.0 in
    let rest = pattern-equal xs ys r.1 in
    λ i. (one i, counts i) ∷ rest i

entry-equal : (a b : Entry) → same_entry a b ≡ true → a ≡ b
entry-equal Marks Marks h = refl
entry-equal Marks (Owed q m w f) h = let no : false ≡ true = h in cc
entry-equal (Owed p l v e) Marks h = let no : false ≡ true = h in cc
entry-equal (Owed p l v e) (Owed q m w f) h =
    let a = and_parts _ _ h in
    let b = and_parts _ _ a.1 in
    let c = and_parts _ _ b.1 in
    let p1 = pattern-equal p q a.0 in
    let p2 = flags-equal l m b.0 in
    let p3 = eqb-true v w c.0 in
    let p4 = same_from_beq e f c.1 in
    λ i. Owed (p1 i) (p2 i) (p3 i) (p4 i)

entries-equal : (a b : List Entry) → same_entries a b ≡ true → a ≡ b
unfolding same_entries
entries-equal [] [] h = refl
entries-equal [] (y ∷ ys) h = let no : false ≡ true = h in cc
entries-equal (x ∷ xs) [] h = let no : false ≡ true = h in cc
entries-equal (x ∷ xs) (y ∷ ys) h = let p = and_parts _ _ h in ap₂ ◌∷◌ (entry-equal x y p.0) (entries-equal xs ys p.1)

pub due-equal : (a b : Due) → same_due a b ≡ true → a ≡ b
unfolding same_due
due-equal (DueOf es m) (DueOf fs n) h = let p = and_parts _ _ h in ap₂ DueOf (entries-equal es fs p.1) (eqb-true m n p.0)

-- ---- the tables

abbrev pub due_of : Tables → ℕ → Due
due_of t n = if nat_lt n 3 then DueOf [] n else get no_due t.dues (n - 3)

-- where a symbol leads, of what stands before
pub moves-at : (rules : RowRules) (t : Tables) (s : Before) (row : List ℕ) (from x : ℕ) → moves_hold rules t s row from ≡ true → x < length row
    → moves_on rules s (from + x) ≡ get no_before t.befores (get 0 row x)
unfolding moves_hold get
moves-at rules t s [] from x h below = absurd (omega arith)
moves-at rules t s (to ∷ row) from zero h below =
    let same : from + zero ≡ from = omega arith in
    ap (moves_on rules s) same ∙ before-equal _ _ (and_parts (same_before (moves_on rules s from) (get no_before t.befores to)) _ h).0
moves-at rules t s (to ∷ row) from (suc x) h below =
    let same : from + suc x ≡ suc from + x = omega arith in
    ap (moves_on rules s) same ∙ moves-at rules t s row (suc from) x (and_parts (same_before (moves_on rules s from) (get no_before t.befores to)) _ h).1 (omega arith)

-- what is owed after a symbol, where a mark isn't glued and where it is
pub reads-at : (rules : RowRules) (t : Tables) (d : Due) (row : List (ℕ × ℕ)) (from x : ℕ) → reads_hold rules t d row from ≡ true → x < length row
    → (due_after rules false (from + x) d ≡ due_of t (get (0, 0) row x).0) × (due_after rules true (from + x) d ≡ due_of t (get (0, 0) row x).1)
unfolding reads_hold get
reads-at rules t d [] from x h below = absurd (omega arith)
reads-at rules t d (to ∷ row) from zero h below =
    let same : from + zero ≡ from = omega arith in
    let p = and_parts (numbers t to.0 (due_after rules false from d)) _ h in
    let r = and_parts (numbers t to.1 (due_after rules true from d)) _ p.1 in
    (ap (λ x. due_after rules false x d) same ∙ due-equal _ _ p.0, ap (λ x. due_after rules true x d) same ∙ due-equal _ _ r.0)
reads-at rules t d (to ∷ row) from (suc x) h below =
    let same : from + suc x ≡ suc from + x = omega arith in
    let p = and_parts (numbers t to.0 (due_after rules false from d)) _ h in
    let r = and_parts (numbers t to.1 (due_after rules true from d)) _ p.1 in
    let found = reads-at rules t d row (suc from) x r.1 (omega arith) in
    (ap (λ x. due_after rules false x d) same ∙ found.0, ap (λ x. due_after rules true x d) same ∙ found.1)

-- ---- the rows of tables

abbrev pub chosen : Bool → ℕ × ℕ → ℕ
chosen glues pair = if glues then pair.1 else pair.0

-- an index at which a list of rows has one that isn't empty is within it
pub row-within : {X : Type 0} (rows : List (List X)) (i : ℕ) → 0 < length (get [] rows i) → i < length rows
unfolding get
row-within [] i some = absurd (omega (arith, some))
row-within (row ∷ rows) zero some = omega arith
row-within (row ∷ rows) (suc i) some = let within = row-within rows i some in omega (arith, within)

pub record BeforeRow (rules : RowRules) (n : ℕ) (t : Tables) (s : Before) (row : List ℕ) (o : ℕ) : Type 0 where
  pub size : length row ≡ n
  pub moves : moves_hold rules t s row 1 ≡ true
  pub owes : numbers t o (owed rules s) ≡ true

befores-at : (rules : RowRules) (t : Tables) (n : ℕ) (ss : List Before) (rows : List (List ℕ)) (os : List ℕ) (i : ℕ)
    → befores_hold rules t n ss rows os ≡ true → i < length ss
    → BeforeRow rules n t (get no_before ss i) (get [] rows i) (get 0 os i)
unfolding befores_hold get
befores-at rules t n [] rows os i h below = absurd (omega (arith, below))
befores-at rules t n (s ∷ ss) [] os i h below = let no : false ≡ true = h in cc
befores-at rules t n (s ∷ ss) (row ∷ rows) [] i h below = let no : false ≡ true = h in cc
befores-at rules t n (s ∷ ss) (row ∷ rows) (o ∷ os) zero h below =
    let a = and_parts (length row == n) _ h in
    let b = and_parts (moves_hold rules t s row 1) _ a.1 in
    let c = and_parts (numbers t o (owed rules s)) _ b.1 in
    record { size = eqb-true _ _ a.0; moves = b.0; owes = c.0 }
befores-at rules t n (s ∷ ss) (row ∷ rows) (o ∷ os) (suc i) h below =
    let a = and_parts (length row == n) _ h in
    let b = and_parts (moves_hold rules t s row 1) _ a.1 in
    let c = and_parts (numbers t o (owed rules s)) _ b.1 in
    befores-at rules t n ss rows os i c.1 (omega (arith, below))

owes-many : (rules : RowRules) (t : Tables) (n : ℕ) (ss : List Before) (rows : List (List ℕ)) (os : List ℕ)
    → befores_hold rules t n ss rows os ≡ true → length os ≡ length ss
unfolding befores_hold
owes-many rules t n [] [] [] h = refl
owes-many rules t n [] [] (o ∷ os) h = let no : false ≡ true = h in cc
owes-many rules t n [] (row ∷ rows) os h = let no : false ≡ true = h in cc
owes-many rules t n (s ∷ ss) [] os h = let no : false ≡ true = h in cc
owes-many rules t n (s ∷ ss) (row ∷ rows) [] h = let no : false ≡ true = h in cc
owes-many rules t n (s ∷ ss) (row ∷ rows) (o ∷ os) h =
    let a = and_parts (length row == n) _ h in
    let b = and_parts (moves_hold rules t s row 1) _ a.1 in
    let c = and_parts (numbers t o (owed rules s)) _ b.1 in
    ap suc (owes-many rules t n ss rows os c.1)

dues-at : (rules : RowRules) (t : Tables) (n : ℕ) (ds : List Due) (rows : List (List (ℕ × ℕ))) (i : ℕ)
    → dues_hold rules t n ds rows ≡ true → i < length rows
    → (length (get [] rows i) ≡ suc n) × (reads_hold rules t (get no_due ds i) (get [] rows i) 0 ≡ true)
unfolding dues_hold get
dues-at rules t n ds [] i h below = absurd (omega (arith, below))
dues-at rules t n [] (row ∷ rows) i h below = let no : false ≡ true = h in cc
dues-at rules t n (d ∷ ds) (row ∷ rows) zero h below =
    let a = and_parts (length row == suc n) _ h in
    let b = and_parts (reads_hold rules t d row 0) _ a.1 in
    (eqb-true _ _ a.0, b.0)
dues-at rules t n (d ∷ ds) (row ∷ rows) (suc i) h below =
    let a = and_parts (length row == suc n) _ h in
    let b = and_parts (reads_hold rules t d row 0) _ a.1 in
    dues-at rules t n ds rows i b.1 (omega (arith, below))

-- a number of the tables means what the list with the verdicts has there
numbered : (t : Tables) (i : ℕ) → get no_due (append_dues verdicts t.dues) i ≡ due_of t i
unfolding get append_dues
numbered t zero = refl
numbered t (suc zero) = refl
numbered t (suc (suc zero)) = refl
numbered t (suc (suc (suc i))) =
    let far : nat_lt (suc (suc (suc i))) 3 ≡ false = le-ltb _ _ (omega arith) in
    let same : suc (suc (suc i)) - 3 ≡ i = omega arith in
    sym (cond-false _ _ _ far ∙ ap (get no_due t.dues) same)

rows-below : (many : ℕ) (rows : List (List ℕ)) (i : ℕ) → rows_below many rows ≡ true → all_below many (get [] rows i) ≡ true
unfolding rows_below all_below get
rows-below many [] i h = refl
rows-below many (row ∷ rows) zero h = (and_parts (all_below many row) _ h).0
rows-below many (row ∷ rows) (suc i) h = rows-below many rows i (and_parts (all_below many row) _ h).1

all-below : (many : ℕ) (row : List ℕ) (j : ℕ) → all_below many row ≡ true → 0 < many → get 0 row j < many
unfolding all_below get
all-below many [] j h some = some
all-below many (to ∷ row) zero h some = ltb-true _ _ (and_parts (nat_lt to many) _ h).0
all-below many (to ∷ row) (suc j) h some = all-below many row j (and_parts (nat_lt to many) _ h).1 some

pub number-is : {X : Type 0} (n : ℕ) (f : ℕ → X) → once_number n f ≡ f n
unfolding once_number
number-is zero f = refl
number-is (suc n) f = refl

-- ---- all that the check of the tables says

-- what is owed, by its number, after each symbol and the end
abbrev pub Reads : RowRules → ℕ → Tables → ℕ → Type 0
Reads rules n t i =
    (x : ℕ) (glues : Bool) → x < suc n → due_after rules glues x (due_of t i) ≡ due_of t (chosen glues (get (0, 0) (get [] t.reads i) x))

pub record TablesAre (rules : RowRules) (n : ℕ) (t : Tables) : Type 0 where
  pub start : at_start rules ≡ get no_before t.befores 0
  pub some : 0 < length t.befores
  pub owes_many : length t.owes ≡ length t.befores
  -- of what stands before a place, by its number
  pub size : (i : ℕ) → i < length t.befores → length (get [] t.moves i) ≡ n
  pub moves : (i j : ℕ) → i < length t.befores → j < n
      → moves_on rules (get no_before t.befores i) (suc j) ≡ get no_before t.befores (get 0 (get [] t.moves i) j)
  pub within : (i j : ℕ) → get 0 (get [] t.moves i) j < length t.befores
  pub owes : (i : ℕ) → i < length t.befores → owed rules (get no_before t.befores i) ≡ due_of t (get 0 t.owes i)
  -- of what is owed
  pub reads : (i : ℕ) → 0 < length (get [] t.reads i) → Reads rules n t i

picks : (rules : RowRules) (t : Tables) (d : Due) (x : ℕ) (glues : Bool) (to : ℕ × ℕ) → due_after rules false x d ≡ due_of t to.0
    → due_after rules true x d ≡ due_of t to.1 → due_after rules glues x d ≡ due_of t (chosen glues to)
picks rules t d x true to plain glued = glued
picks rules t d x false to plain glued = plain

pub tables-are : (rules : RowRules) (n : ℕ) (t : Tables) → tables_hold rules n t ≡ true → TablesAre rules n t
tables-are rules n t h =
    let a = and_parts (same_before (at_start rules) (get no_before t.befores 0)) _ h in
    let b = and_parts (befores_hold rules t n t.befores t.moves t.owes) _ a.1 in
    let c = and_parts (dues_hold rules t n (append_dues verdicts t.dues) t.reads) _ b.1 in
    let d : (nat_lt 0 (length t.befores) && rows_below (length t.befores) t.moves) ≡ true = sym (number-is _ _) ∙ c.1 in
    let e = and_parts (nat_lt 0 (length t.befores)) _ d in
    let some : 0 < length t.befores = ltb-true _ _ e.0 in
    record {
      start = before-equal _ _ a.0;
      some = some;
      owes_many = owes-many rules t n t.befores t.moves t.owes b.0;
      size = λ i below. (befores-at rules t n t.befores t.moves t.owes i b.0 below).size;
      moves = λ i j below small.
          let row = befores-at rules t n t.befores t.moves t.owes i b.0 below in
          let size = row.size in
          let next : 1 + j ≡ suc j = omega arith in
          ap (moves_on rules (get no_before t.befores i)) (sym next) ∙ moves-at rules t (get no_before t.befores i) (get [] t.moves i) 1 j row.moves (omega (arith, size, small));
      within = λ i j. all-below (length t.befores) (get [] t.moves i) j (rows-below (length t.befores) t.moves i e.1) some;
      owes = λ i below. due-equal _ _ (befores-at rules t n t.befores t.moves t.owes i b.0 below).owes;
      reads = λ i some x glues small.
          let row = dues-at rules t n (append_dues verdicts t.dues) t.reads i c.0 (row-within t.reads i some) in
          let size = row.0 in
          let found = reads-at rules t (get no_due (append_dues verdicts t.dues) i) (get [] t.reads i) 0 x row.1 (omega (arith, size, small)) in
          let from : 0 + x ≡ x = omega arith in
          let is = numbered t i in
          picks rules t (due_of t i) x glues (get (0, 0) (get [] t.reads i) x)
          (ap (λ d. due_after rules false x d) (sym is) ∙ ap (λ y. due_after rules false y (get no_due (append_dues verdicts t.dues) i)) (sym from) ∙ found.0)
          (ap (λ d. due_after rules true x d) (sym is) ∙ ap (λ y. due_after rules true y (get no_due (append_dues verdicts t.dues) i)) (sym from) ∙ found.1);
    }
