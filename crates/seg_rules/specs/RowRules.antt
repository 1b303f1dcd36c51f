-- Rules of boundaries as data: rows in order, each of what stands before a place, what comes after it, and a verdict.
use Rattle.std.specs.Prelude.{ℕ, zero, suc, ◌+◌, ◌/◌, ◌%◌, ◌^◌, Bool, true, false, not, ◌&&◌, ◌||◌, ◌==◌, if◌then◌else◌, List, [], ◌∷◌}
use Rattle.seg_rules.specs.declared.rules.Count.{Count}
use Rattle.seg_rules.specs.declared.rules.Count.TheVariants.{One, Optional, Star, Pairs}

-- a pattern: classes, each the number whose bits are its symbols, and how often
abbrev pub Pattern : Type 0
Pattern = List (ℕ × Count)

-- a verdict is 0, no boundary, or one more than the status of a boundary
pub record Row : Type 0 where
  pub left : Pattern
  pub right : Pattern
  pub verdict : ℕ

-- Rows above that of marks read each symbol; those below read a symbol with its marks as one, and a mark that follows nothing, or one
-- of `bare`, as the symbol `alone`. Symbol 0 is the start of the text on the left, and its end on the right.
pub record RowRules : Type 0 where
  pub above : List Row
  pub below : List Row
  pub has_marks : Bool
  pub marks : ℕ
  pub bare : ℕ
  pub alone : ℕ
  pub at_end : ℕ

-- whether a symbol is in a class
abbrev pub has : ℕ → ℕ → Bool
has class symbol = (class / (2 ^ symbol)) % 2 == 1

-- the class of some symbols, each named once
abbrev pub class_of : List ℕ → ℕ
class_of [] = 0
class_of (symbol ∷ symbols) = 2 ^ symbol + class_of symbols

-- A value, worked out once.
unfoldable pub once : {X : Type 0} → Bool → (Bool → X) → X
once true f = f true
once false f = f false

unfoldable pub once_number : {X : Type 0} → ℕ → (ℕ → X) → X
once_number zero f = f zero
once_number (suc n) f = f (suc n)

unfoldable pub once_flags : {X : Type 0} → List Bool → (List Bool → X) → X
once_flags [] f = f []
once_flags (true ∷ live) f = once_flags live (λ rest. f (true ∷ rest))
once_flags (false ∷ live) f = once_flags live (λ rest. f (false ∷ rest))

-- Of a pattern, which of its rests may come next: a flag for each rest, the whole first and the empty one last (of a rest
-- that begins with pairs two: for no half of a pair, and for one). After a symbol, where the whole may begin there or not.
unfoldable pub flow : Bool → Pattern → List Bool → ℕ → List Bool
flow begins [] live x = begins ∷ []
flow begins ((class, One) ∷ items) (b ∷ live) x = begins ∷ flow (b && has class x) items live x
flow begins ((class, Optional) ∷ items) (b ∷ live) x = begins ∷ flow (begins || (b && has class x)) items live x
flow begins ((class, Star) ∷ items) (b ∷ live) x = once (begins || (b && has class x)) (λ here. here ∷ flow here items live x)
flow begins ((class, Pairs) ∷ items) (b ∷ (half ∷ live)) x =
    once (begins || (half && has class x)) (λ here. here ∷ ((b && has class x) ∷ flow here items live x))
flow begins (item ∷ items) live x = []

unfoldable pub no_flags : Pattern → List Bool
no_flags [] = false ∷ []
no_flags ((class, Pairs) ∷ items) = false ∷ (false ∷ no_flags items)
no_flags (item ∷ items) = false ∷ no_flags items

-- the whole fits what was read
unfoldable pub is_full : List Bool → Bool
is_full [] = false
is_full (b ∷ []) = b
is_full (b ∷ (c ∷ live)) = is_full (c ∷ live)

unfoldable pub is_live : List Bool → Bool
is_live [] = false
is_live (b ∷ live) = b || is_live live

-- What stands before a place.
pub record Before : Type 0 where
  pub above : List (List Bool)
  pub below : List (List Bool)
  -- a mark would be read with what stands there
  pub glues : Bool

unfoldable pub moved : List Row → List (List Bool) → ℕ → List (List Bool)
moved [] lives x = []
moved (row ∷ rows) [] x = []
moved (row ∷ rows) (live ∷ lives) x = flow true row.left live x ∷ moved rows lives x

unfoldable pub unread : List Row → List (List Bool)
unread [] = []
unread (row ∷ rows) = flow true row.left (flow true row.left (no_flags row.left) 0) 0 ∷ unread rows

abbrev pub at_start : RowRules → Before
at_start rules = record { above = unread rules.above; below = unread rules.below; glues = false }

unfoldable pub moves_on : RowRules → Before → ℕ → Before
moves_on rules s x =
    let mark = has rules.marks x in
    let stuck = mark && s.glues in
    record {
      above = moved rules.above s.above x;
      below = if stuck then s.below else moved rules.below s.below (if mark then rules.alone else x);
      glues = stuck || (rules.has_marks && not (has rules.bare x));
    }

-- What is owed to a place: right sides in order, as far as they are read, and the verdict where none of them fits.
pub data Entry : Type 0 where
  Marks : Entry
  Owed : (right : Pattern) (live : List Bool) (verdict : ℕ) (below : Bool) → Entry

pub data Due : Type 0 where
  DueOf : List Entry → ℕ → Due

abbrev pub verdict_of_entry : Entry → ℕ
verdict_of_entry Marks = 0
verdict_of_entry (Owed right live verdict below) = verdict

abbrev pub due : List Entry → ℕ → Due
due entries otherwise = DueOf entries otherwise

unfoldable pub put_on : Entry → List Entry → ℕ → Due
put_on entry [] otherwise = if verdict_of_entry entry == otherwise then due [] otherwise else due (entry ∷ []) otherwise
put_on entry (e ∷ entries) otherwise = due (entry ∷ (e ∷ entries)) otherwise

-- an entry before others; one that says what comes without it is left out
unfoldable pub put : Entry → Due → Due
put entry (DueOf entries otherwise) = put_on entry entries otherwise

-- what becomes of an entry: it decides, it stays, or it is dropped
pub data Reading : Type 0 where
  Decides : ℕ → Reading
  Stays : Entry → Reading
  Drops : Reading

-- what is owed, of an entry and of those after it
unfoldable pub onto : Reading → Due → Due
onto (Decides verdict) rest = DueOf [] verdict
onto (Stays entry) rest = put entry rest
onto Drops rest = rest

unfoldable pub begun : Bool → Row → Bool → Reading
begun below row false = Drops
begun below row true = once_flags (flow true row.right (no_flags row.right) 0) (λ start.
    if is_full start then Decides row.verdict else Stays (Owed row.right start row.verdict below))

unfoldable pub owed_rows : Bool → List Row → List (List Bool) → Due → Due
owed_rows below [] lives rest = rest
owed_rows below (row ∷ rows) [] rest = rest
owed_rows below (row ∷ rows) (live ∷ lives) rest = onto (begun below row (is_full live)) (owed_rows below rows lives rest)

unfoldable pub owed : RowRules → Before → Due
owed rules s =
    let lower = owed_rows true rules.below s.below (due [] 0) in
    owed_rows false rules.above s.above (if rules.has_marks then put Marks lower else lower)

-- what is owed after one more symbol, where a mark would be glued or not
unfoldable pub reading : RowRules → Bool → ℕ → Entry → Reading
reading rules glues x Marks = if has rules.marks x && glues then Decides 0 else Drops
reading rules glues x (Owed right live verdict below) =
    once (below && has rules.marks x) (λ mark.
    if mark && glues
    then Stays (Owed right live verdict below)
    else once_flags (flow false right live (if mark then rules.alone else x)) (λ next.
    if is_full next
    then Decides verdict
    else (if is_live next && not (x == 0) then Stays (Owed right next verdict below) else Drops)))

unfoldable pub read_all : RowRules → Bool → ℕ → List Entry → ℕ → Due
read_all rules glues x [] otherwise = DueOf [] otherwise
read_all rules glues x (entry ∷ entries) otherwise = onto (reading rules glues x entry) (read_all rules glues x entries otherwise)

unfoldable pub read : RowRules → Bool → ℕ → Due → Due
read rules glues x (DueOf entries otherwise) = read_all rules glues x entries otherwise

abbrev pub due_after : RowRules → Bool → ℕ → Due → Due
due_after rules glues x d = read rules glues x d

abbrev pub decided : Due → ℕ
decided (DueOf entries otherwise) = otherwise

-- the verdict on a place, of what is owed to it and of the symbols after it
unfoldable pub verdict : RowRules → Before → Due → List ℕ → ℕ
verdict rules s d [] = decided (due_after rules false 0 d)
verdict rules s d (x ∷ after) = verdict rules (moves_on rules s x) (due_after rules s.glues x d) after

-- what stands before a place, of the symbols before it, nearest first
unfoldable pub before : RowRules → List ℕ → Before
before rules [] = at_start rules
before rules (x ∷ symbols) = moves_on rules (before rules symbols) x

-- whether the rules have a boundary between symbols, of which those before are nearest first
abbrev pub has_boundary : RowRules → List ℕ → List ℕ → Bool
has_boundary rules [] after = true
has_boundary rules symbols [] = true
has_boundary rules symbols after = not (verdict rules (before rules symbols) (owed rules (before rules symbols)) after == 0)
