-- The verdict on the first of some units of lines.
use Rattle.std.specs.Prelude.{ℕ, zero, suc, ◌&&◌, ◌||◌, Bool, true, false, if◌then◌else◌, Option, Some, None, List, [], ◌∷◌, drop, map}
use Rattle.seg_pairs.specs.declared.provider.pairs.BreakState.{BreakState}
use Rattle.seg_pairs.specs.declared.provider.pairs.BreakState.TheVariants.{Break, Keep, NoMatch, Intermediate, Index}
use Rattle.seg_pairs.specs.PairTable.{PairTable, entry_of}
use Rattle.seg_pairs.specs.Walk.{Walk, is_class}
use Rattle.seg_pairs.specs.Verdict.{Verdict, unasked, walk_from}
use Rattle.seg_pairs.specs.Verdict.Verdict.{BreakAfter, GoAfter, RunBegins}
use Rattle.seg_pairs.specs.declared.verdicts.Step.{Step}
use Rattle.seg_pairs.specs.declared.verdicts.Step.TheVariants as steps
use Rattle.seg_line_pairs.specs.declared.units.UnitDetail.{UnitDetail}
use Rattle.seg_line_pairs.specs.declared.verdicts.Case.{Case}
use Rattle.seg_line_pairs.specs.declared.verdicts.Case.TheVariants.{Run, Together, Apart, Table}
use Rattle.seg_line_pairs.specs.declared.engines.LineEngine.{LineEngine}
use Rattle.seg_line_pairs.specs.LineRules.{TableRules, is_complex_class}
use Rattle.seg_line_pairs.specs.LineLists.{keeps, listed}
use Rattle.seg_line_pairs.specs.LineUnits.{UnitElement, LineUnit}

abbrev pub unit_classes : List LineUnit → List ℕ
unit_classes units = map (λ (unit : LineUnit). unit.class) units

-- the unit right before that with this number ends with ZWJ
abbrev pub begins_joined : List LineUnit → Bool
begins_joined [] = false
begins_joined (unit ∷ units) = unit.is_joined

abbrev pub joined_before : List LineUnit → ℕ → Bool
joined_before units zero = false
joined_before units (suc n) = begins_joined (drop n units)

-- where the table finds a boundary: between two units, before a unit where a walk stops, or before the one that it saved,
-- because of the unit where it stops or because of the end of the text
pub data Found : Type 0 where
  BetweenTwo : Found
  WhereItStops : Found
  SavedByUnit : Found
  SavedByEnd : Found

-- ZWJ takes it away: where the left unit, the one before the stop and the one before the saved unit end with it, and where
-- the walk began in a class
abbrev pub is_taken_away : Found → (left stop saved from_class : Bool) → Bool
is_taken_away BetweenTwo left stop saved from_class = left
is_taken_away WhereItStops left stop saved from_class = stop
is_taken_away SavedByUnit left stop saved from_class = saved || (stop && from_class)
is_taken_away SavedByEnd left stop saved from_class = saved

-- a boundary after so many units, unless it is taken away. Lines have no classes of boundaries
abbrev pub unless : Bool → ℕ → Verdict
unless taken_away taken = if taken_away then GoAfter taken else BreakAfter taken 0

-- what ZWJ takes away of what a walk finds that began in this state
abbrev pub is_taken_from : PairTable → ℕ → List LineUnit → Walk → Found → Bool
is_taken_from t start units w found =
    is_taken_away found (joined_before units 1) (joined_before units w.stop) (joined_before units w.saved) (is_class t start)

-- what an entry says that stops a walk before a unit
abbrev pub unit_stop_verdict : PairTable → ℕ → List LineUnit → Walk → BreakState → Verdict
unit_stop_verdict t start units w Keep = GoAfter w.stop
unit_stop_verdict t start units w Break = unless (is_taken_from t start units w WhereItStops) w.stop
unit_stop_verdict t start units w _ = unless (is_taken_from t start units w SavedByUnit) w.saved

-- what the entry of its state and the end of the text says of a walk that reaches it
abbrev pub unit_end_verdict : PairTable → ℕ → List LineUnit → Walk → BreakState → Verdict
unit_end_verdict t start units w NoMatch = unless (is_taken_from t start units w SavedByEnd) w.saved
unit_end_verdict t start units w _ = BreakAfter w.stop 0

abbrev pub unit_walk_verdict : PairTable → ℕ → List LineUnit → Walk → List LineUnit → Verdict
unit_walk_verdict t start units w [] = unit_end_verdict t start units w (entry_of t w.state t.eot_property)
unit_walk_verdict t start units w (unit ∷ left) = unit_stop_verdict t start units w (entry_of t w.state unit.class)

-- the entry of the first two units names a state, in which a walk begins
unfoldable pub unit_named_verdict : PairTable → ℕ → LineUnit → List LineUnit → Verdict
unit_named_verdict t start left units =
    let w = walk_from t start left.class (unit_classes (drop 2 units)) in
    unit_walk_verdict t start units w (drop w.stop units)

-- what the entry of the first two units says
abbrev pub unit_first_verdict : PairTable → LineUnit → List LineUnit → BreakState → Verdict
unit_first_verdict t left units Keep = GoAfter 1
unit_first_verdict t left units Break = unless (is_taken_away BetweenTwo left.is_joined false false false) 1
unit_first_verdict t left units NoMatch = unless (is_taken_away BetweenTwo left.is_joined false false false) 1
unit_first_verdict t left units (Index state) = unit_named_verdict t state left units
unit_first_verdict t left units (Intermediate state) = unit_named_verdict t state left units

-- a run begins where one complex code point stands alone before a complex base
abbrev pub begins_run : {engine : LineEngine} → TableRules engine → LineUnit → LineUnit → Bool
begins_run rules left right = is_complex_class rules left.class && left.is_single && is_complex_class rules right.class

abbrev pub list_case : Option Bool → Case
list_case (Some true) = Apart
list_case (Some false) = Together
list_case None = Table

-- the first case that applies: a run, KeepAll, the lists, and else the table
abbrev pub case_of : {engine : LineEngine} → TableRules engine → LineUnit → LineUnit → Case
case_of {engine} rules left right =
    if begins_run rules left right then Run
    else if keeps engine rules.style left.class right.class then Together
    else list_case (listed engine rules.style left.is_joined left.class left.left_code_point right.class right.code_point)

abbrev pub case_verdict : PairTable → LineUnit → LineUnit → List LineUnit → Case → Verdict
case_verdict t left right units Run = RunBegins
case_verdict t left right units Together = GoAfter 1
case_verdict t left right units Apart = BreakAfter 1 0
case_verdict t left right units Table = unit_first_verdict t left units (entry_of t left.class right.class)

unfoldable pub unit_verdict : {engine : LineEngine} → TableRules engine → List LineUnit → Verdict
unit_verdict rules [] = unasked
unit_verdict rules (left ∷ []) = BreakAfter 1 0
unit_verdict rules (left ∷ right ∷ after) =
    case_verdict rules.table left right (left ∷ right ∷ after) (case_of rules left right)

-- Steps of lines.

-- a boundary before an element, unless it is taken away
abbrev pub step_unless : Bool → UnitElement → Step UnitDetail
step_unless taken_away next = if taken_away then steps.Go next else steps.Break next 0
