-- What stands before places, row by row.
use Rattle.std.specs.Prelude.{◌≡◌, ℕ, ◌+◌, ◌<◌, true, List, ◌∷◌, length, map, drop}
use Rattle.std.specs.Prelude.{get_or}
use Rattle.std.proofs.Common.{arith, refl, sym, subst}
use Rattle.std.proofs.lemmas.List.{drop_more, drop_all}
use Rattle.seg_rules.specs.declared.rules.Row.{Row as GivenRow}
use Rattle.seg_rules.specs.RowRules.{flow, moved, no_flags, unread}
use Rattle.seg_rules.specs.Given.{flags_by, lives_by, row_of}

-- a symbol leads from what is live of rows to these
abbrev pub Moves : List GivenRow → List ℕ → ℕ → List ℕ → Type 0
Moves rows from x to = moved (map row_of rows) (lives_by (map row_of rows) from) x ≡ lives_by (map row_of rows) to

moves-one : (row : GivenRow) (rows : List GivenRow) (here : ℕ) (from : List ℕ) (x there : ℕ) (to : List ℕ)
    → flow true row.left.now (flags_by row.left.now here) x ≡ flags_by row.left.now there → Moves rows from x to → Moves (row ∷ rows) (here ∷ from) x (there ∷ to)
unfolding moved lives_by
moves-one row rows here from x there to one rest = λ i. one i ∷ rest i

pub moves-step : (rows : List GivenRow) (from : List ℕ) (x : ℕ) (to : List ℕ) (i : ℕ) (d : GivenRow)
    → i < length rows → i < length from → i < length to
    → flow true (get_or rows i d).left.now (flags_by (get_or rows i d).left.now (get_or from i 0)) x ≡ flags_by (get_or rows i d).left.now (get_or to i 0)
    → Moves (drop (i + 1) rows) (drop (i + 1) from) x (drop (i + 1) to) → Moves (drop i rows) (drop i from) x (drop i to)
moves-step rows from x to i d in_rows in_from in_to one rest =
    let row = get_or rows i d in
    subst (λ rows. Moves rows (drop i from) x (drop i to)) (sym (drop_more rows i d in_rows))
    (subst (λ from. Moves (row ∷ drop (i + 1) rows) from x (drop i to)) (sym (drop_more from i 0 in_from))
    (subst (λ to. Moves (row ∷ drop (i + 1) rows) (get_or from i 0 ∷ drop (i + 1) from) x to) (sym (drop_more to i 0 in_to))
    (moves-one row (drop (i + 1) rows) (get_or from i 0) (drop (i + 1) from) x (get_or to i 0) (drop (i + 1) to) one rest)))

pub moves-none : (rows : List GivenRow) (from : List ℕ) (x : ℕ) (to : List ℕ) (i : ℕ) → length rows ≡ i → length from ≡ i → length to ≡ i
    → Moves (drop i rows) (drop i from) x (drop i to)
unfolding moved lives_by
moves-none rows from x to i rows_all from_all to_all =
    let a = sym (drop_all i rows (omega (arith, rows_all))) in
    subst (λ rows. Moves rows (drop i from) x (drop i to)) a refl

-- what is live of rows at the start of a text
abbrev pub Begin : List GivenRow → List ℕ → Type 0
Begin rows to = unread (map row_of rows) ≡ lives_by (map row_of rows) to

begin-one : (row : GivenRow) (rows : List GivenRow) (there : ℕ) (to : List ℕ)
    → flow true row.left.now (flow true row.left.now (no_flags row.left.now) 0) 0 ≡ flags_by row.left.now there → Begin rows to → Begin (row ∷ rows) (there ∷ to)
unfolding unread lives_by
begin-one row rows there to one rest = λ i. one i ∷ rest i

pub begin-step : (rows : List GivenRow) (to : List ℕ) (i : ℕ) (d : GivenRow) → i < length rows → i < length to
    → flow true (get_or rows i d).left.now (flow true (get_or rows i d).left.now (no_flags (get_or rows i d).left.now) 0) 0 ≡ flags_by (get_or rows i d).left.now (get_or to i 0)
    → Begin (drop (i + 1) rows) (drop (i + 1) to) → Begin (drop i rows) (drop i to)
begin-step rows to i d in_rows in_to one rest =
    let row = get_or rows i d in
    subst (λ rows. Begin rows (drop i to)) (sym (drop_more rows i d in_rows))
    (subst (λ to. Begin (row ∷ drop (i + 1) rows) to) (sym (drop_more to i 0 in_to))
    (begin-one row (drop (i + 1) rows) (get_or to i 0) (drop (i + 1) to) one rest))

pub begin-none : (rows : List GivenRow) (to : List ℕ) (i : ℕ) → length rows ≡ i → length to ≡ i → Begin (drop i rows) (drop i to)
unfolding unread lives_by
begin-none rows to i rows_all to_all =
    let a = sym (drop_all i rows (omega (arith, rows_all))) in
    subst (λ rows. Begin rows (drop i to)) a refl
