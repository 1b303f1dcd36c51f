-- What a turn finds, as places of a text.
use Rattle.std.specs.Prelude.{◌≡◌, ℕ, ◌<◌, ◌&&◌, suc, Bool, if◌then◌else◌}
use Rattle.std.specs.Option.{option_map}
use Rattle.seg_text.specs.Items.{Text, start_of, rest_after, code_points}
use Rattle.seg_pairs.specs.declared.provider.pairs.BreakState.{BreakState}
use Rattle.seg_pairs.specs.declared.provider.pairs.BreakState.TheVariants as entries
use Rattle.seg_pairs.specs.declared.provider.pairs.BreakState.TheVariants.{Keep, NoMatch, Intermediate, Index}
use Rattle.seg_line_pairs.specs.LineRules.{TableRules}
use Rattle.seg_line_pairs.specs.LineUnits.{is_joiner}
use Rattle.seg_line_pairs.specs.declared.engines.LineEngine.TheVariants.{Seventeen}
use Rattle.seg_line_turns.specs.declared.bases.BaseAhead.{BaseAhead}
use Rattle.seg_line_turns.specs.declared.turn_units.Left.{Left}
use Rattle.seg_line_turns.specs.declared.turn_walk.Walker.{Walker}
use Rattle.std.specs.declared.ops.ControlFlow.{ControlFlow}
use Rattle.std.specs.declared.ops.ControlFlow.TheVariants as outcome
use Rattle.seg_line_turns.specs.declared.turn_units.TurnOutcome.{TurnOutcome}
use Rattle.seg_line_turns.specs.declared.turn_units.TurnOutcome.TheVariants.{Break, Go, Run}
use Rattle.seg_line_turns.specs.TurnClasses.{is_contingent}
use Rattle.seg_line_turns.specs.TurnRules.{LeftUnit}
use Rattle.seg_line_turns.specs.Turns.{Turn, Walking, WalkStep, next_base, to_base}
use Rattle.seg_line_turns.specs.Turns.Turn.{BreakAt, GoTo, RunAt}
use Rattle.seg_line_turns.specs.Turns.WalkStep.{Stops, GoesOn}

-- where the item with this number begins
abbrev pub item_place : ℕ → Text → ℕ
item_place number whole = start_of (rest_after number whole)

abbrev pub placed : Text → Turn → TurnOutcome
placed whole (BreakAt place resume) = Break (item_place place whole) (item_place resume whole)
placed whole (GoTo place opened) = Go (item_place place whole) opened
placed whole (RunAt first opened) = Run (item_place first whole) opened

-- a boundary at this place, unless ZWJ takes it away
abbrev pub outcome_unless : Bool → Bool → ℕ → TurnOutcome
outcome_unless joined opened place = if joined then Go place opened else Break place place

-- what an entry reads a class as at the start of a text
abbrev pub class_at_start : ℕ → BreakState → ℕ
class_at_start class (Index state) = state
class_at_start class (Intermediate state) = class
class_at_start class NoMatch = class
class_at_start class Keep = class
class_at_start class entries.Break = class

-- the turn at a hyphen that begins a word, at this place and before an item at that one
abbrev pub hyphen_outcome : Left → Bool → ℕ → ℕ → TurnOutcome
hyphen_outcome left opened place next =
    if is_contingent left.class && is_joiner Seventeen left.last_class then Go next opened else Break place next

-- a unit of which so many items come after the first
abbrev pub left_seen : ℕ → Left → LeftUnit
left_seen last left = record {
  last = last;
  class = left.class;
  last_class = left.last_class;
  last_code_point = left.last_code_point;
}

-- the last item of a unit has this number in a text, and this is what is left of it
pub record IsLeft (whole : Text) (last : ℕ) (left : Left) (rest : Text) : Type 0 where
  pub place : left.last_place ≡ item_place last whole
  pub after : rest ≡ rest_after (suc last) whole

-- .. and the right item begins at this place, before what is left
pub record IsBetween (whole : Text) (last : ℕ) (left : Left) (place : ℕ) (rest : Text) : Type 0 where
  pub left_place : left.last_place ≡ item_place last whole
  pub place_is : place ≡ item_place (suc last) whole
  pub after : rest ≡ rest_after (suc (suc last)) whole

-- in whatever text the items stand, this turn is found from the left unit
abbrev pub FindsFrom : Left → Text → TurnOutcome → (LeftUnit → Turn) → Type 0
FindsFrom left rest found turn_of =
    (whole : Text) (last : ℕ) → IsLeft whole last left rest → found ≡ placed whole (turn_of (left_seen last left))

abbrev pub FindsBetween : Left → ℕ → Text → TurnOutcome → (LeftUnit → Turn) → Type 0
FindsBetween left place rest found turn_of =
    (whole : Text) (last : ℕ) → IsBetween whole last left place rest → found ≡ placed whole (turn_of (left_seen last left))

-- a walk that saved the item with this number
abbrev pub walker_seen : ℕ → Walker → Walking
walker_seen saved walker = record {
  state = walker.state;
  saved = saved;
  is_saved_joined = walker.is_saved_joined;
  before = walker.before;
  is_composite_first = walker.is_composite_first;
  opened = walker.opened;
}

abbrev pub walker_at : Text → Walking → Walker
walker_at whole w = record {
  state = w.state;
  saved = item_place w.saved whole;
  is_saved_joined = w.is_saved_joined;
  before = w.before;
  is_composite_first = w.is_composite_first;
  opened = w.opened;
}

abbrev pub step_at : Text → WalkStep → ControlFlow TurnOutcome Walker
step_at whole (Stops found) = outcome.Break (placed whole found)
step_at whole (GoesOn w) = outcome.Continue (walker_at whole w)

-- the walk saved this item of a text, it is before the item with this number, and this is left
pub record IsWalkAt (whole : Text) (number saved : ℕ) (walker : Walker) (rest : Text) : Type 0 where
  pub saved_place : walker.saved ≡ item_place saved whole
  pub after : rest ≡ rest_after number whole

-- the base after some items: its class, where there is one, and its place, or else that of the last item
pub record IsBaseOf (rules : TableRules Seventeen) (rest : Text) (found : BaseAhead) : Type 0 where
  pub class : found.class ≡ option_map (λ (base : ℕ × ℕ). base.1) (next_base rules (code_points rest.items))
  pub place : found.place ≡ item_place (to_base rules (code_points rest.items)) rest

-- where a walk goes on, its state is below the number of states
abbrev pub IsBelowState : ℕ → ControlFlow TurnOutcome Walker → Type 0
IsBelowState count (outcome.Break found) = Unit {0}
IsBelowState count (outcome.Continue walker) = walker.state < count
