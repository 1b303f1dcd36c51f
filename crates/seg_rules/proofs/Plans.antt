-- A machine that passes the test of a plan has it.
use Rattle.std.specs.Prelude.{◌≡◌, ℕ, zero, suc, ◌+◌, ◌*◌, ◌/◌, ◌<◌, nat_lt, Bool, true, false, ◌||◌, ◌==◌, if◌then◌else◌, Option, Some, None, List, [], ◌∷◌, ◌++◌, length, slice_index_or}
use Rattle.std.proofs.Common.{arith, refl, sym, ap, ap₂, ◌∙◌, inl, inr, eqb-true, ltb-true}
use Rattle.std.proofs.lemmas.Bool.{and_parts, or_cases}
use Rattle.std.proofs.lemmas.List.{get_or_append_left, get_or-append-add, length-append}
use Rattle.std.proofs.lemmas.Nat.{div-mul-add}
use native.Mathlib.Nat.{suc-mul}
use Rattle.seg_machine.specs.declared.provider.Acceptance.{Acceptance}
use Rattle.seg_machine.specs.declared.provider.Acceptance.TheVariants.{Continue}
use Rattle.seg_machine.specs.Machine.{Machine, step, state_at, symbol_count}
use Rattle.seg_rules.specs.Check.{Plan, get}
use Rattle.seg_rules.specs.Places.{next_of, stands_for, IsPlan, states_hold, column, columns, same_numbers, nexts_below, all_nexts_below, plan_holds}
use Rattle.seg_rules.proofs.TableLemmas.{number-is}

numbers-same : (xs ys : List ℕ) → same_numbers xs ys ≡ true → xs ≡ ys
unfolding same_numbers
numbers-same [] [] h = refl
numbers-same [] (y ∷ ys) h = let no : false ≡ true = h in cc
numbers-same (x ∷ xs) [] h = let no : false ≡ true = h in cc
numbers-same (x ∷ xs) (y ∷ ys) h = let p = and_parts (x == y) _ h in ap₂ ◌∷◌ (eqb-true x y p.0) (numbers-same xs ys p.1)

states-at : (states : List (Acceptance × Option ℕ)) (accepts : List (ℕ × ℕ × Bool)) (q : ℕ) → states_hold states accepts ≡ true
    → stands_for (slice_index_or states q (Continue, None)) (get (0, 0, false) accepts q) ≡ true
unfolding states_hold get
states-at [] [] q h = refl
states-at [] (a ∷ accepts) q h = let no : false ≡ true = h in cc
states-at (s ∷ states) [] q h = let no : false ≡ true = h in cc
states-at (s ∷ states) (a ∷ accepts) zero h = (and_parts (stands_for s a) _ h).0
states-at (s ∷ states) (a ∷ accepts) (suc q) h = states-at states accepts q (and_parts (stands_for s a) _ h).1

length-column : (x : ℕ) (rows : List (List ℕ)) → length (column x rows) ≡ length rows
unfolding column
length-column x [] = refl
length-column x (row ∷ rows) = ap suc (length-column x rows)

column-at : (x : ℕ) (rows : List (List ℕ)) (q : ℕ) → q < length rows → slice_index_or (column x rows) q 0 ≡ get 255 (get [] rows q) x
unfolding column get
column-at x [] q h = absurd (omega (arith, h))
column-at x (row ∷ rows) zero h = refl
column-at x (row ∷ rows) (suc q) h = column-at x rows q (omega (arith, h))

columns-at : (many first x : ℕ) (rows : List (List ℕ)) (q : ℕ) → x < many → q < length rows
    → slice_index_or (columns first many rows) (q + x * length rows) 0 ≡ get 255 (get [] rows q) (first + x)
unfolding columns
columns-at zero first x rows q small below = absurd (omega (arith, small))
columns-at (suc many) first zero rows q small below =
    let size = length-column first rows in
    let at : q + 0 * length rows ≡ q = omega arith in
    let from : first ≡ first + 0 = omega arith in
    ap (λ i. slice_index_or (column first rows ++ columns (suc first) many rows) i 0) at
    ∙ get_or_append_left (column first rows) (columns (suc first) many rows) 0 q (omega (arith, size, below))
    ∙ column-at first rows q below
    ∙ ap (λ x. get 255 (get [] rows q) x) from
columns-at (suc many) first (suc x) rows q small below =
    let size = length-column first rows in
    let product = suc-mul x (length rows) in
    let at : q + suc x * length rows ≡ length (column first rows) + (q + x * length rows) = omega (arith, size, product) in
    let from : suc first + x ≡ first + suc x = omega arith in
    ap (λ i. slice_index_or (column first rows ++ columns (suc first) many rows) i 0) at
    ∙ get_or-append-add (column first rows) (columns (suc first) many rows) (q + x * length rows) 0
    ∙ columns-at many (suc first) x rows q (omega (arith, small)) below
    ∙ ap (λ x. get 255 (get [] rows q) x) from

row-below : (many : ℕ) (row : List ℕ) (x : ℕ) → nexts_below many row ≡ true → (get 255 row x == 255) ≡ false → get 255 row x < many
unfolding nexts_below get
row-below many [] x h some = let no : true ≡ false = some in let other : false ≡ true = sym no in cc
row-below many (to ∷ row) zero h some =
    elim (or_cases (to == 255) _ (and_parts (to == 255 || nat_lt to many) _ h).0) [
      | inl none ↦ let no : false ≡ true = sym some ∙ none in cc
      | inr below ↦ ltb-true to many below
    ]
row-below many (to ∷ row) (suc x) h some = row-below many row x (and_parts (to == 255 || nat_lt to many) _ h).1 some

rows-below : (many : ℕ) (rows : List (List ℕ)) (q : ℕ) → all_nexts_below many rows ≡ true → nexts_below many (get [] rows q) ≡ true
unfolding all_nexts_below nexts_below get
rows-below many [] q h = refl
rows-below many (row ∷ rows) zero h = (and_parts (nexts_below many row) _ h).0
rows-below many (row ∷ rows) (suc q) h = rows-below many rows q (and_parts (nexts_below many row) _ h).1

pub plan-is : (m : Machine) (n : ℕ) (plan : Plan) → plan_holds m n plan ≡ true → IsPlan m n plan
unfolding step state_at
plan-is m n plan h =
    let many = length m.states in
    let a = and_parts (nat_lt 1 many) _ (sym (number-is many _) ∙ h) in
    let b = and_parts (length plan.nexts == many) _ a.1 in
    let c = and_parts (states_hold m.states plan.accepts) _ b.1 in
    let d = and_parts (same_numbers m.transitions (columns 0 (suc n) plan.nexts)) _ c.1 in
    let rows : length plan.nexts ≡ many = eqb-true _ _ b.0 in
    record {
      some = ltb-true 1 many a.0;
      leads = λ q x below small.
          let from : 0 + x ≡ x = omega arith in
          let next : slice_index_or m.transitions (q + x * many) 0 ≡ next_of plan q x =
          ap (λ xs. slice_index_or xs (q + x * many) 0) (numbers-same _ _ d.0)
          ∙ ap (λ size. slice_index_or (columns 0 (suc n) plan.nexts) (q + x * size) 0) (sym rows)
          ∙ columns-at (suc n) 0 x plan.nexts q small (omega (arith, rows, below))
          ∙ ap (λ x. get 255 (get [] plan.nexts q) x) from in
          ap (λ next. if next == 255 then None else Some next) next;
      within = λ q x below small some. row-below many (get [] plan.nexts q) x (rows-below many plan.nexts q d.1) some;
      accepts = λ q. states-at m.states plan.accepts q c.0;
    }

length-columns : (many first : ℕ) (rows : List (List ℕ)) → length (columns first many rows) ≡ many * length rows
unfolding columns
length-columns zero first rows = omega arith
length-columns (suc many) first rows =
    let size = length-column first rows in
    let later = length-columns many (suc first) rows in
    let product = suc-mul many (length rows) in
    length-append (column first rows) (columns (suc first) many rows) ∙ omega (arith, size, later, product)

-- a machine that passes has the symbols from 1 up to n
pub symbols-are : (m : Machine) (n : ℕ) (plan : Plan) → plan_holds m n plan ≡ true → symbol_count m ≡ suc n
unfolding symbol_count
symbols-are m n plan h =
    let many = length m.states in
    let a = and_parts (nat_lt 1 many) _ (sym (number-is many _) ∙ h) in
    let b = and_parts (length plan.nexts == many) _ a.1 in
    let c = and_parts (states_hold m.states plan.accepts) _ b.1 in
    let d = and_parts (same_numbers m.transitions (columns 0 (suc n) plan.nexts)) _ c.1 in
    let some = ltb-true 1 many a.0 in
    let rows : length plan.nexts ≡ many = eqb-true _ _ b.0 in
    let all : suc n * many ≡ suc n * many + 0 = omega arith in
    ap (λ k. k / many) (ap length (numbers-same _ _ d.0) ∙ length-columns (suc n) 0 plan.nexts ∙ ap (λ size. suc n * size) rows ∙ all)
    ∙ div-mul-add (suc n) many 0 (omega (arith, some))
