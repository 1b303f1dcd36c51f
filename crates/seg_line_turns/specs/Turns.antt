-- The rules of the engine 17: one turn, from a left unit and the code points after it.
use Rattle.std.specs.Prelude.{ℕ, suc, ◌+◌, ◌-◌, ◌&&◌, ◌||◌, not, Bool, true, false, if◌then◌else◌, Option, Some, None, List, [], ◌∷◌, length}
use Rattle.std.specs.Option.{option_map_or}
use Rattle.seg_pairs.specs.declared.provider.pairs.BreakState.{BreakState}
use Rattle.seg_pairs.specs.declared.provider.pairs.BreakState.TheVariants.{Break, Keep, NoMatch, Intermediate, Index}
use Rattle.seg_pairs.specs.PairTable.{named_state, is_intermediate, PairTable, entry_of}
use Rattle.seg_pairs.specs.Walk.{is_class}
use Rattle.seg_line_pairs.specs.LineRules.{TableRules, is_complex_context, line_class}
use Rattle.seg_line_pairs.specs.LineClasses.{class_number}
use Rattle.seg_line_pairs.specs.LineClasses.LineClass.{AL}
use Rattle.seg_line_pairs.specs.LineUnits.{is_mark, bears_none, is_joiner}
use Rattle.seg_line_pairs.specs.LineLists.{keeps, listed}
use Rattle.seg_line_pairs.specs.declared.engines.LineEngine.TheVariants.{Seventeen}
use Rattle.seg_line_turns.specs.TurnClasses.{is_glue, is_complex_mark, is_letter, is_hyphen, is_opening, is_start, is_before_quote, is_after_quote, is_before_hyphen, is_space, is_zero_space, is_infix, is_digit, is_quote, is_contingent}
use Rattle.seg_line_turns.specs.TurnRules.{LeftUnit, left_unit, with_item, is_joined}

-- the code points after an item: how many marks stand first, and the class of the base after them, where there is one
unfoldable pub next_base : TableRules Seventeen → List ℕ → Option (ℕ × ℕ)
next_base rules [] = None
next_base rules (code_point ∷ code_points) =
    if is_mark Seventeen (line_class rules code_point)
    then option_map_or (λ (found : ℕ × ℕ). Some (suc found.0, found.1)) (next_base rules code_points) None
    else Some (0, line_class rules code_point)

-- a base comes, and its class passes
abbrev pub comes : TableRules Seventeen → (ℕ → Bool) → List ℕ → Bool
comes rules passes code_points = option_map_or (λ (found : ℕ × ℕ). passes found.1) (next_base rules code_points) false

-- how many code points stand before it, or before the last one where no base comes
abbrev pub to_base : TableRules Seventeen → List ℕ → ℕ
to_base rules code_points = option_map_or (λ (found : ℕ × ℕ). found.0) (next_base rules code_points) (length code_points - 1)

-- what a turn finds. Items are counted from the first of the left unit on
pub data Turn : Type 0 where
  -- a boundary, and the item that the next turn begins with: a call ends here
  BreakAt : (place resume : ℕ) → Turn
  -- none: the item that the next turn begins with, and whether a space after an opening was met in this call
  GoTo : (place : ℕ) → (opened : Bool) → Turn
  -- this item begins a run
  RunAt : (first : ℕ) → (opened : Bool) → Turn

-- a boundary, unless ZWJ takes it away
abbrev pub turn_unless : Bool → Bool → ℕ → Turn
turn_unless joined opened place = if joined then GoTo place opened else BreakAt place place

-- what a walk carries: its state, the item before which it saved a boundary and whether ZWJ stands before that, the class of the item
-- before, whether the walk began in a composite, and whether a space after an opening was met in this call
pub record Walking : Type 0 where
  pub state : ℕ
  pub saved : ℕ
  pub is_saved_joined : Bool
  pub before : ℕ
  pub is_composite_first : Bool
  pub opened : Bool

abbrev pub is_keep : BreakState → Bool
is_keep Keep = true
is_keep Break = false
is_keep NoMatch = false
is_keep (Index state) = false
is_keep (Intermediate state) = false

-- the state stays with a letter
abbrev pub sticks : PairTable → ℕ → Bool
sticks t state = is_keep (entry_of t state (class_number Seventeen AL))

-- the end of the text
abbrev pub walk_end_turn : Walking → ℕ → BreakState → Turn
walk_end_turn w place NoMatch = turn_unless w.is_saved_joined w.opened w.saved
walk_end_turn w place _ = BreakAt place place

-- no entry fits any more: a boundary stands where it was saved. After ZWJ there is one only if the walk began in a composite
abbrev pub walk_back_turn : Walking → Bool → Turn
walk_back_turn w joined =
    if joined
    then (if w.is_composite_first && not w.is_saved_joined then BreakAt w.saved w.saved else GoTo w.saved w.opened)
    else turn_unless w.is_saved_joined w.opened w.saved

-- an entry that names no state
abbrev pub walk_stop_turn : Walking → Bool → ℕ → BreakState → Turn
walk_stop_turn w joined place Keep = GoTo place w.opened
walk_stop_turn w joined place Break = turn_unless joined w.opened place
walk_stop_turn w joined place _ = walk_back_turn w joined

-- an entry that names a state
abbrev pub walk_on : PairTable → Walking → ℕ → ℕ → ℕ → Walking
walk_on t w place class next =
    let saves = is_intermediate (entry_of t w.state class) || is_class t w.state in
    record {
      state = next;
      saved = if saves then place else w.saved;
      is_saved_joined = if saves then is_joiner Seventeen w.before else w.is_saved_joined;
      before = class;
      is_composite_first = w.is_composite_first;
      opened = w.opened;
    }

-- what an item does to a walk: a turn is found, or it goes on
pub data WalkStep : Type 0 where
  Stops : Turn → WalkStep
  GoesOn : Walking → WalkStep

-- what the entry of the state and the class says
abbrev pub walk_entry_step : TableRules Seventeen → Walking → ℕ → ℕ → BreakState → WalkStep
walk_entry_step rules w place class entry =
    option_map_or (λ next. GoesOn (walk_on rules.table w place class next)) (named_state entry) (Stops (walk_stop_turn w (is_joiner Seventeen w.before) place entry))

-- an item that isn't glued: after a space some classes decide, and else the table
abbrev pub space_step : TableRules Seventeen → Walking → ℕ → ℕ → List ℕ → WalkStep
space_step rules w place class after =
    if is_space w.before && not (is_zero_space w.state) && is_infix class && not (sticks rules.table w.state) then Stops (GoTo w.saved w.opened)
    else if is_quote class && is_space w.before && not (is_class rules.table w.state)
    then Stops (GoTo (if sticks rules.table w.state then place else w.saved) w.opened)
    else if is_space w.before && is_hyphen class && comes rules is_letter after
    then Stops (if sticks rules.table w.state then GoTo (place + suc (to_base rules after)) w.opened else BreakAt place (suc place))
    else walk_entry_step rules w place class (entry_of rules.table w.state class)

-- the item with this number and class: the cases of a walk, in their order
abbrev pub walk_step : TableRules Seventeen → Walking → ℕ → ℕ → List ℕ → WalkStep
walk_step rules w place class after =
    if is_glue class && not (bears_none Seventeen w.before) then GoesOn (record w { before = class })
    else if w.opened && not (is_space class) && not (is_hyphen class) then Stops (GoTo place false)
    else space_step rules (record w { opened = w.opened && is_space class }) place class after

abbrev pub walk_by : WalkStep → (Walking → Turn) → Turn
walk_by (Stops turn) later = turn
walk_by (GoesOn w) later = later w

-- the walk goes on before the item with this number
unfoldable pub walk_turn : TableRules Seventeen → Walking → ℕ → List ℕ → Turn
walk_turn rules w place [] = walk_end_turn w place (entry_of rules.table w.state rules.table.eot_property)
walk_turn rules w place (code_point ∷ after) =
    walk_by (walk_step rules w place (line_class rules code_point) after) (λ w. walk_turn rules w (suc place) after)

-- a walk that begins after the right item, which has this number
abbrev pub walk_begin : PairTable → Bool → Bool → ℕ → ℕ → ℕ → Walking
walk_begin t joined opened place class state = record {
  state = state;
  saved = place;
  is_saved_joined = joined;
  before = class;
  is_composite_first = not (is_class t state);
  opened = opened;
}

-- the table's entry of the left class and the right class
abbrev pub table_turn : TableRules Seventeen → Bool → LeftUnit → ℕ → List ℕ → BreakState → Turn
table_turn rules opened left right after Keep = GoTo (suc left.last) opened
table_turn rules opened left right after Break = turn_unless (is_joined left) opened (suc left.last)
table_turn rules opened left right after NoMatch = turn_unless (is_joined left) opened (suc left.last)
table_turn rules opened left right after (Index state) =
    walk_turn rules (walk_begin rules.table (is_joined left) opened (suc left.last) right state) (suc (suc left.last)) after
table_turn rules opened left right after (Intermediate state) =
    walk_turn rules (walk_begin rules.table (is_joined left) opened (suc left.last) right state) (suc (suc left.last)) after

abbrev pub begins_marked : TableRules Seventeen → List ℕ → Bool
begins_marked rules [] = false
begins_marked rules (code_point ∷ code_points) = is_mark Seventeen (line_class rules code_point)

-- a closing quote after the end of a line, or after ZW
abbrev pub quote_turn : TableRules Seventeen → ℕ → List ℕ → Turn
quote_turn rules place after =
    if comes rules is_hyphen after then BreakAt place place
    else if begins_marked rules after then BreakAt place (place + suc (to_base rules after))
    else BreakAt place place

abbrev pub list_turn : Option Bool → ℕ → Bool → Turn → Turn
list_turn (Some true) place opened otherwise = BreakAt place place
list_turn (Some false) place opened otherwise = GoTo place opened
list_turn None place opened otherwise = otherwise

-- where no list decides, and then where no class decides
abbrev pub class_turn : TableRules Seventeen → Bool → LeftUnit → ℕ → List ℕ → Turn
class_turn rules opened left class after =
    let place = suc left.last in
    if is_complex_context left.last_class && is_complex_context class then RunAt left.last opened
    else if is_space left.class && is_infix class && comes rules is_digit after then BreakAt place place
    else if is_quote class && is_before_quote left.class then quote_turn rules place after
    else if is_quote class && is_space left.class && opened then GoTo place opened
    else if is_quote class && is_space left.class && comes rules is_hyphen after then BreakAt place place
    else if is_quote class && is_space left.class && comes rules (λ class. not (is_after_quote class)) after
    then BreakAt place (place + suc (to_base rules after))
    else if is_before_hyphen left.class && is_hyphen class && comes rules is_letter after
    then (if is_contingent left.class && is_joined left then GoTo (suc place) opened else BreakAt place (suc place))
    else table_turn rules opened left class after (entry_of rules.table left.class class)

-- the right item isn't glued: KeepAll, the list of the strictness, classes, and the table
abbrev pub right_turn : TableRules Seventeen → Bool → LeftUnit → ℕ → List ℕ → Turn
right_turn rules opened left right after =
    let class = line_class rules right in
    if keeps Seventeen rules.style left.class class then GoTo (suc left.last) opened
    else list_turn (listed Seventeen rules.style (is_joined left) left.class left.last_code_point class right) (suc left.last) opened
    (class_turn rules opened left class after)

-- an item of this class is glued to the left unit
abbrev pub is_taken : LeftUnit → ℕ → Bool
is_taken left class = is_glue class && not (bears_none Seventeen left.class) && not (is_complex_context left.class && is_complex_mark class)

-- a space comes after an opening
abbrev pub opens : LeftUnit → ℕ → Bool
opens left class = is_opening left.class && is_space class

-- the turn from a left unit, and the code points after it
unfoldable pub turn : TableRules Seventeen → Bool → LeftUnit → List ℕ → Turn
turn rules opened left [] = BreakAt (suc left.last) (suc left.last)
turn rules opened left (right ∷ after) =
    if is_taken left (line_class rules right) then turn rules opened (with_item rules left right) after
    else right_turn rules (opened || opens left (line_class rules right)) left right after

-- the left unit that a turn begins with: at the start of a text the table says what some classes are read as
abbrev pub start_unit : LeftUnit → BreakState → LeftUnit
start_unit unit (Index state) = record unit { class = state }
start_unit unit (Intermediate state) = unit
start_unit unit Break = unit
start_unit unit Keep = unit
start_unit unit NoMatch = unit

abbrev pub first_unit : TableRules Seventeen → Bool → ℕ → LeftUnit
first_unit rules starts code_point =
    let unit = left_unit rules code_point in
    if starts && is_start unit.class then start_unit unit (entry_of rules.table rules.table.sot_property unit.class) else unit
