-- Rules in plain words: of a place, the first row whose left side fits some of the symbols before it, and whose right side some of
-- those after it.
use Rattle.std.specs.Prelude.{ℕ, suc, ◌-◌, Bool, false, not, ◌&&◌, ◌||◌, ◌==◌, if◌then◌else◌, List, [], ◌∷◌, ◌++◌}
use Rattle.seg_text.specs.declared.boundary.Boundary.{Boundary}
use Rattle.seg_text.specs.Boundaries.{boundary}
use Rattle.seg_rules.specs.RowRules.{Pattern, Row, RowRules, has, is_full}
use Rattle.seg_rules.specs.Patterns.{left_flags, right_flags}

-- some of the nearest symbols fit a pattern
abbrev pub left_fits : Pattern → List ℕ → Bool
left_fits pattern before = is_full (left_flags pattern before)

-- the symbols that were read, nearest first, fit a pattern, or those with some that come
unfoldable pub right_fits : Pattern → List ℕ → List ℕ → Bool
right_fits pattern were_read [] = is_full (right_flags pattern were_read)
right_fits pattern were_read (x ∷ coming) = is_full (right_flags pattern were_read) || right_fits pattern (x ∷ were_read) coming

-- a row fits at a place, of the symbols before it, nearest first, and of those after it
abbrev pub row_fits : Row → List ℕ → List ℕ → Bool
row_fits row before after = left_fits row.left before && right_fits row.right [] after

-- the verdict of the first row that fits
unfoldable pub first_row : List Row → List ℕ → List ℕ → ℕ → ℕ
first_row [] before after otherwise = otherwise
first_row (row ∷ rows) before after otherwise =
    if row_fits row before after then row.verdict else first_row rows before after otherwise

-- a mark after these symbols, nearest first, is one with what stands there
unfoldable pub is_base : RowRules → List ℕ → Bool
is_base rules [] = false
is_base rules (x ∷ past) = (has rules.marks x && is_base rules past) || (rules.has_marks && not (has rules.bare x))

-- symbols without the marks that are one with what stands before them, the other marks as `alone`: those before a place, from the
-- start of the text, 0, on, and those after it, to the end, 0
abbrev pub unmarked : RowRules → ℕ → ℕ
unmarked rules x = if has rules.marks x then rules.alone else x

unfoldable pub bases_before : RowRules → List ℕ → List ℕ
bases_before rules [] = 0 ∷ []
bases_before rules (x ∷ past) =
    if has rules.marks x && is_base rules past then bases_before rules past else unmarked rules x ∷ bases_before rules past

unfoldable pub bases_after : RowRules → Bool → List ℕ → List ℕ
bases_after rules base [] = unmarked rules 0 ∷ []
bases_after rules base (x ∷ rest) =
    let further = bases_after rules ((has rules.marks x && base) || (rules.has_marks && not (has rules.bare x))) rest in
    if has rules.marks x && base then further else unmarked rules x ∷ further

-- whether a mark comes that is one with what stands before
abbrev pub is_marked : RowRules → Bool → List ℕ → Bool
is_marked rules base [] = false
is_marked rules base (x ∷ rest) = has rules.marks x && base

-- the verdict on a place: of the rows above that of marks, of marks, and of the rows below
unfoldable pub plain_verdict : RowRules → List ℕ → List ℕ → ℕ
plain_verdict rules past [] = suc rules.at_end
plain_verdict rules past (x ∷ rest) =
    first_row rules.above (past ++ (0 ∷ [])) ((x ∷ rest) ++ (0 ∷ []))
    (if rules.has_marks && is_marked rules (is_base rules past) (x ∷ rest)
    then 0
    else first_row rules.below (bases_before rules past) (bases_after rules (is_base rules past) (x ∷ rest)) 0)

-- where the rules break, after some symbols and so many more: each place with its status
unfoldable pub plain_places : RowRules → ℕ → List ℕ → List ℕ → List Boundary
plain_places rules k past [] = []
plain_places rules k past (x ∷ rest) =
    let here = plain_verdict rules (x ∷ past) rest in
    let further = plain_places rules (suc k) (x ∷ past) rest in
    if here == 0 then further else boundary (suc k) (here - 1) ∷ further
