-- A verdict on units takes some of them, and one to go on leaves some; a run begins with two complex ones.
use Rattle.std.proofs.Common.{◌≡◌, ◌≢◌, ℕ, ◌<◌, ◌≤◌, ◌&&◌, Bool, true, false, cond, Option, Some, None, List, [], ◌∷◌, length, drop, refl, ap, arith}
use Rattle.std.proofs.lemmas.List.{length-drop, length-map}
use Rattle.seg_pairs.specs.declared.provider.pairs.BreakState.{BreakState}
use Rattle.seg_pairs.specs.declared.provider.pairs.BreakState.TheVariants.{Break, Keep, NoMatch, Intermediate, Index}
use Rattle.seg_pairs.specs.PairTable.{PairTable, entry_of}
use Rattle.seg_pairs.specs.Walk.{Walk, walk}
use Rattle.seg_pairs.specs.Verdict.Verdict.{RunBegins}
use Rattle.seg_pairs.specs.Verdict.{TakesOf, IsForward}
use Rattle.seg_pairs.proofs.Forward.{Within, walk-within}
use Rattle.seg_line_pairs.specs.declared.engines.LineEngine.{LineEngine}
use Rattle.seg_line_pairs.specs.declared.verdicts.Case.{Case}
use Rattle.seg_line_pairs.specs.declared.verdicts.Case.TheVariants.{Run, Together, Apart, Table}
use Rattle.seg_line_pairs.specs.LineLists.{keeps, listed}
use Rattle.seg_line_pairs.specs.LineRules.{TableRules, is_complex_class}
use Rattle.seg_line_pairs.specs.LineUnits.{LineUnit}
use Rattle.seg_line_pairs.specs.LineVerdict.{Found, unit_classes, unless, is_taken_from, unit_stop_verdict, unit_end_verdict, unit_walk_verdict, unit_named_verdict, unit_first_verdict, begins_run, list_case, case_of, case_verdict, unit_verdict}

unless-takes : (taken_away : Bool) (n count : ℕ) → 0 < n → n < count → TakesOf count (unless taken_away n)
unless-takes true n count some less = (some, less)
unless-takes false n count some less = (some, omega (arith, less))

unless-no-run : (taken_away : Bool) (n : ℕ) → unless taken_away n ≢ RunBegins
unless-no-run true n is = cc
unless-no-run false n is = cc

module _ (t : PairTable) (start : ℕ) (units : List LineUnit) where
  stop-takes : (w : Walk) (entry : BreakState) (count : ℕ) → 0 < w.saved → w.saved < w.stop → w.stop < count → TakesOf count (unit_stop_verdict t start units w entry)
  stop-takes w Keep count some before within = (omega arith, within)
  stop-takes w Break count some before within = unless-takes (is_taken_from t start units w Found.WhereItStops) w.stop count (omega arith) within
  stop-takes w NoMatch count some before within = unless-takes (is_taken_from t start units w Found.SavedByUnit) w.saved count some (omega arith)
  stop-takes w (Index q) count some before within = unless-takes (is_taken_from t start units w Found.SavedByUnit) w.saved count some (omega arith)
  stop-takes w (Intermediate q) count some before within = unless-takes (is_taken_from t start units w Found.SavedByUnit) w.saved count some (omega arith)

  end-takes : (w : Walk) (entry : BreakState) (count : ℕ) → 0 < w.saved → w.saved < w.stop → w.stop ≤ count → TakesOf count (unit_end_verdict t start units w entry)
  end-takes w NoMatch count some before within = unless-takes (is_taken_from t start units w Found.SavedByEnd) w.saved count some (omega arith)
  end-takes w Keep count some before within = (omega arith, within)
  end-takes w Break count some before within = (omega arith, within)
  end-takes w (Index q) count some before within = (omega arith, within)
  end-takes w (Intermediate q) count some before within = (omega arith, within)

  stop-no-run : (w : Walk) (entry : BreakState) → unit_stop_verdict t start units w entry ≢ RunBegins
  stop-no-run w Keep is = cc
  stop-no-run w Break is = unless-no-run (is_taken_from t start units w Found.WhereItStops) w.stop is
  stop-no-run w NoMatch is = unless-no-run (is_taken_from t start units w Found.SavedByUnit) w.saved is
  stop-no-run w (Index q) is = unless-no-run (is_taken_from t start units w Found.SavedByUnit) w.saved is
  stop-no-run w (Intermediate q) is = unless-no-run (is_taken_from t start units w Found.SavedByUnit) w.saved is

  end-no-run : (w : Walk) (entry : BreakState) → unit_end_verdict t start units w entry ≢ RunBegins
  end-no-run w NoMatch is = unless-no-run (is_taken_from t start units w Found.SavedByEnd) w.saved is
  end-no-run w Keep is = cc
  end-no-run w Break is = cc
  end-no-run w (Index q) is = cc
  end-no-run w (Intermediate q) is = cc

  walk-no-run : (w : Walk) (left : List LineUnit) → unit_walk_verdict t start units w left ≢ RunBegins
  walk-no-run w [] = end-no-run w (entry_of t w.state t.eot_property)
  walk-no-run w (unit ∷ left) = stop-no-run w (entry_of t w.state unit.class)

named-takes : (t : PairTable) (start : ℕ) (left right : LineUnit) (after : List LineUnit)
    → TakesOf (length (left ∷ right ∷ after)) (unit_named_verdict t start left (left ∷ right ∷ after))
unfolding unit_named_verdict
named-takes t start left right after =
    let w = walk t start 2 1 left.class (unit_classes after) in
    let within = walk-within t start 2 1 left.class (unit_classes after) (omega arith) (omega arith) in
    on w within (drop w.stop (left ∷ right ∷ after)) refl
  where
    on : (w : Walk) → Within 2 (length (unit_classes after)) w → (rest : List LineUnit) → drop w.stop (left ∷ right ∷ after) ≡ rest
        → TakesOf (length (left ∷ right ∷ after)) (unit_walk_verdict t start (left ∷ right ∷ after) w rest)
    on w within [] is =
        let long = length-map after (λ (unit : LineUnit). unit.class) in
        end-takes t start (left ∷ right ∷ after) w (entry_of t w.state t.eot_property) (length (left ∷ right ∷ after)) within.some within.before (omega (arith, within.to, long))
    on w within (unit ∷ rest) is =
        let long = length-drop w.stop (left ∷ right ∷ after) in
        let some = ap length is in
        stop-takes t start (left ∷ right ∷ after) w (entry_of t w.state unit.class) (length (left ∷ right ∷ after)) within.some within.before (omega (arith, long, some))

named-no-run : (t : PairTable) (start : ℕ) (left : LineUnit) (units : List LineUnit) → unit_named_verdict t start left units ≢ RunBegins
unfolding unit_named_verdict
named-no-run t start left units =
    let w = walk t start 2 1 left.class (unit_classes (drop 2 units)) in
    walk-no-run t start units w (drop w.stop units)

first-takes : (t : PairTable) (left right : LineUnit) (after : List LineUnit) (entry : BreakState)
    → TakesOf (length (left ∷ right ∷ after)) (unit_first_verdict t left (left ∷ right ∷ after) entry)
first-takes t left right after Break = unless-takes left.is_joined 1 (length (left ∷ right ∷ after)) (omega arith) (omega arith)
first-takes t left right after NoMatch = unless-takes left.is_joined 1 (length (left ∷ right ∷ after)) (omega arith) (omega arith)
first-takes t left right after Keep = (omega arith, omega arith)
first-takes t left right after (Index q) = named-takes t q left right after
first-takes t left right after (Intermediate q) = named-takes t q left right after

first-no-run : (t : PairTable) (left : LineUnit) (units : List LineUnit) (entry : BreakState) → unit_first_verdict t left units entry ≢ RunBegins
first-no-run t left units Break is = unless-no-run left.is_joined 1 is
first-no-run t left units NoMatch is = unless-no-run left.is_joined 1 is
first-no-run t left units Keep is = cc
first-no-run t left units (Index q) is = named-no-run t q left units is
first-no-run t left units (Intermediate q) is = named-no-run t q left units is

case-takes : (t : PairTable) (left right : LineUnit) (after : List LineUnit) (case : Case)
    → TakesOf (length (left ∷ right ∷ after)) (case_verdict t left right (left ∷ right ∷ after) case)
case-takes t left right after Run = tt
case-takes t left right after Together = (omega arith, omega arith)
case-takes t left right after Apart = (omega arith, omega arith)
case-takes t left right after Table = first-takes t left right after (entry_of t left.class right.class)

pub unit-forward : {engine : LineEngine} (rules : TableRules engine) → IsForward (unit_verdict rules)
unfolding unit_verdict
unit-forward rules left [] = (omega arith, omega arith)
unit-forward rules left (right ∷ after) = case-takes rules.table left right after (case_of rules left right)

-- a run begins with one complex code point before another

case-run : (t : PairTable) (left right : LineUnit) (units : List LineUnit) (case : Case) → case_verdict t left right units case ≡ RunBegins → case ≡ Run
case-run t left right units Run is = refl
case-run t left right units Together is = cc
case-run t left right units Apart is = cc
case-run t left right units Table is = absurd (first-no-run t left units (entry_of t left.class right.class) is)

list-no-run : (listed : Option Bool) → list_case listed ≢ Run
list-no-run (Some true) is = cc
list-no-run (Some false) is = cc
list-no-run None is = cc

begins-of : {engine : LineEngine} (rules : TableRules engine) (left right : LineUnit) → case_of rules left right ≡ Run → begins_run rules left right ≡ true
begins-of {engine} rules left right is = outer (begins_run rules left right) refl is
  where
    inner : (b : Bool) → cond b Together (list_case (listed engine rules.style left.is_joined left.class left.left_code_point right.class right.code_point)) ≡ Run → begins_run rules left right ≡ true
    inner true is = cc
    inner false is = absurd (list-no-run (listed engine rules.style left.is_joined left.class left.left_code_point right.class right.code_point) is)

    outer : (b : Bool) → begins_run rules left right ≡ b → cond b Run (cond (keeps engine rules.style left.class right.class) Together (list_case (listed engine rules.style left.is_joined left.class left.left_code_point right.class right.code_point))) ≡ Run
        → begins_run rules left right ≡ true
    outer true begins is = begins
    outer false begins is = inner (keeps engine rules.style left.class right.class) is

pub record BeginsRun {engine : LineEngine} (rules : TableRules engine) (left : LineUnit) (others : List LineUnit) : Type 0 where
  pub right : LineUnit
  pub after : List LineUnit
  pub two : others ≡ right ∷ after
  pub left_complex : is_complex_class rules left.class ≡ true
  pub left_single : left.is_single ≡ true
  pub right_complex : is_complex_class rules right.class ≡ true

pub unit-run : {engine : LineEngine} (rules : TableRules engine) (left : LineUnit) (others : List LineUnit) → unit_verdict rules (left ∷ others) ≡ RunBegins → BeginsRun rules left others
unfolding unit_verdict
unit-run rules left [] is = cc
unit-run rules left (right ∷ after) is =
    let begins = begins-of rules left right (case-run rules.table left right (left ∷ right ∷ after) (case_of rules left right) is) in
    on (is_complex_class rules left.class) left.is_single (is_complex_class rules right.class) refl refl refl begins
  where
    on : (a b c : Bool) → is_complex_class rules left.class ≡ a → left.is_single ≡ b → is_complex_class rules right.class ≡ c → (a && b && c) ≡ true
        → BeginsRun rules left (right ∷ after)
    on true true true left_is single right_is begins =
        record { right = right; after = after; two = refl; left_complex = left_is; left_single = single; right_complex = right_is }
    on true true false left_is single right_is begins = cc
    on true false c left_is single right_is begins = cc
    on false b c left_is single right_is begins = cc
