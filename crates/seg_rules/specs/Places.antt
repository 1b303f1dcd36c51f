-- Machines of the library as plans, and where rules break, as boundaries with statuses.
use Rattle.std.specs.Prelude.{◌≡◌, ℕ, zero, suc, ◌-◌, ◌<◌, ◌≤◌, nat_lt, Bool, true, false, not, ◌&&◌, ◌||◌, ◌==◌, if◌then◌else◌, Option, Some, None, List, [], ◌∷◌, ◌++◌, length}
use Rattle.seg_text.specs.declared.boundary.Boundary.{Boundary}
use Rattle.seg_text.specs.Boundaries.{boundary}
use Rattle.seg_machine.specs.declared.provider.Acceptance.{Acceptance}
use Rattle.seg_machine.specs.declared.provider.Acceptance.TheVariants.{Continue, Accept, Conditional}
use Rattle.seg_machine.specs.Machine.{Machine, step, state_at}
use Rattle.seg_rules.specs.RowRules.{RowRules, owed, verdict, before, once_number}
use Rattle.seg_rules.specs.declared.certificate.Configuration.{Configuration}
use Rattle.seg_rules.specs.Check.{Plan, Tables, get, tables_hold, scans_hold}

-- where a symbol leads, 255 nowhere, and what a state accepts
abbrev pub next_of : Plan → ℕ → ℕ → ℕ
next_of plan q x = get 255 (get [] plan.nexts q) x

abbrev pub accept_of : Plan → ℕ → ℕ × ℕ × Bool
accept_of plan q = get (0, 0, false) plan.accepts q

-- what a state of a machine accepts and names, as a plan says it: there is one lookahead, 0, and what names it accepts
abbrev pub stands_for : Acceptance × Option ℕ → ℕ × ℕ × Bool → Bool
stands_for (Continue, None) accept = accept.0 == 0
stands_for (Continue, Some name) accept = false
stands_for (Accept status, None) accept = accept.0 == 1 && (status == accept.1 && not accept.2)
stands_for (Accept status, Some name) accept = accept.0 == 1 && (status == accept.1 && (accept.2 && name == 0))
stands_for (Conditional lookahead status, None) accept = accept.0 == 2 && (status == accept.1 && lookahead == 0)
stands_for (Conditional lookahead status, Some name) accept = false

-- the plan of a machine, for the symbols up to n
pub record IsPlan (m : Machine) (n : ℕ) (plan : Plan) : Type 0 where
  pub some : 2 ≤ length m.states
  pub leads : (q x : ℕ) → q < length m.states → x < suc n → step m q x ≡ (if next_of plan q x == 255 then None else Some (next_of plan q x))
  pub within : (q x : ℕ) → q < length m.states → x < suc n → (next_of plan q x == 255) ≡ false → next_of plan q x < length m.states
  pub accepts : (q : ℕ) → stands_for (state_at m q) (accept_of plan q) ≡ true

-- the verdict of rules on a place, of the symbols before it, nearest first, and of those after it; the end is a boundary
abbrev pub verdict_at : RowRules → List ℕ → List ℕ → ℕ
verdict_at rules past [] = suc rules.at_end
verdict_at rules past (x ∷ rest) = verdict rules (before rules past) (owed rules (before rules past)) (x ∷ rest)

-- where rules break, after some symbols and so many more: each place with its status
unfoldable pub places : RowRules → ℕ → List ℕ → List ℕ → List Boundary
places rules k past [] = []
places rules k past (x ∷ rest) =
    let here = verdict_at rules (x ∷ past) rest in
    let further = places rules (suc k) (x ∷ past) rest in
    if here == 0 then further else boundary (suc k) (here - 1) ∷ further

-- ---- a test that a machine has a plan

unfoldable pub states_hold : List (Acceptance × Option ℕ) → List (ℕ × ℕ × Bool) → Bool
states_hold [] [] = true
states_hold (state ∷ states) (accept ∷ accepts) = stands_for state accept && states_hold states accepts
states_hold _ _ = false

-- the transitions by a symbol, and by so many from one on
unfoldable pub column : ℕ → List (List ℕ) → List ℕ
column x [] = []
column x (row ∷ rows) = get 255 row x ∷ column x rows

unfoldable pub columns : ℕ → ℕ → List (List ℕ) → List ℕ
columns x zero rows = []
columns x (suc many) rows = column x rows ++ columns (suc x) many rows

unfoldable pub same_numbers : List ℕ → List ℕ → Bool
same_numbers [] [] = true
same_numbers (x ∷ xs) (y ∷ ys) = x == y && same_numbers xs ys
same_numbers _ _ = false

unfoldable pub nexts_below : ℕ → List ℕ → Bool
nexts_below many [] = true
nexts_below many (to ∷ tos) = (to == 255 || nat_lt to many) && nexts_below many tos

unfoldable pub all_nexts_below : ℕ → List (List ℕ) → Bool
all_nexts_below many [] = true
all_nexts_below many (row ∷ rows) = nexts_below many row && all_nexts_below many rows

abbrev pub plan_holds : Machine → ℕ → Plan → Bool
plan_holds m n plan = once_number (length m.states) (λ many.
    nat_lt 1 many && (length plan.nexts == many && (states_hold m.states plan.accepts
    && (same_numbers m.transitions (columns 0 (suc n) plan.nexts) && all_nexts_below many plan.nexts))))

-- ---- the three tests

-- rules over the symbols from 1 up to n, tables, a relation, a plan and a machine pass the tests
pub record Passes (rules : RowRules) (n : ℕ) (t : Tables) (relation : List (List Configuration)) (plan : Plan) (m : Machine) : Type 0 where
  pub tables : tables_hold rules n t ≡ true
  pub scans : scans_hold rules t plan relation ≡ true
  pub machine : plan_holds m n plan ≡ true
