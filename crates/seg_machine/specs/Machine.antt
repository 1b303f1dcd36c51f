-- State machines over the symbols of code points.
use Rattle.std.specs.Prelude.{ℕ, zero, suc, ◌+◌, ◌-◌, ◌*◌, ◌/◌, ◌<◌, ◌≤◌, ◌==◌, nat_lt, if◌then◌else◌, Option, Some, None, List, [], ◌∷◌, ◌++◌, length, map, replicate, slice_index, slice_index_or, ◌≡◌}
use Rattle.std.specs.Option.{option_map_or, option_and_then}
use Rattle.seg_data.specs.declared.provider.ComplexScript.{ComplexScript}
use Rattle.seg_data.specs.declared.provider.ComplexScript.TheVariants.{None as NoScript}
use Rattle.seg_data.specs.Table.{Table, value_of}
use Rattle.seg_machine.specs.declared.provider.Acceptance.{Acceptance}
use Rattle.seg_machine.specs.declared.provider.Acceptance.TheVariants.{Continue}

-- an entry that puts another symbol, and a script, in the place of a symbol
abbrev pub Replacement : Type 0
Replacement = ℕ × ℕ × ComplexScript

-- each state says what it accepts, and names at most one lookahead; a tailoring alone replaces symbols
pub record Machine : Type 0 where
  pub symbols : Table
  pub states : List (Acceptance × Option ℕ)
  pub transitions : List ℕ
  pub num_lookaheads : ℕ
  pub pseudo_symbol_shift : ℕ
  pub pseudo_symbol_map : List (ℕ × ComplexScript)
  pub symbol_map : List Replacement

-- what takes the place of parts of a machine: a map of its pseudo symbols, and what replaces its symbols
pub record MachineTailoring : Type 0 where
  pub pseudo_symbol_map : List (ℕ × ComplexScript)
  pub symbol_map : List Replacement

-- the tailoring of these parts
abbrev pub tailoring : List (ℕ × ComplexScript) → List Replacement → MachineTailoring
tailoring map replacements = record { pseudo_symbol_map = map; symbol_map = replacements }

-- the machine of these parts
abbrev pub machine :
    Table → List (Acceptance × Option ℕ) → List ℕ → ℕ → ℕ → List (ℕ × ComplexScript) → Machine
machine symbols states transitions num_lookaheads shift map = record {
  symbols = symbols;
  states = states;
  transitions = transitions;
  num_lookaheads = num_lookaheads;
  pseudo_symbol_shift = shift;
  pseudo_symbol_map = map;
  symbol_map = [];
}

-- the machine with a tailoring, if there is one
abbrev pub with_tailoring : Machine → Option MachineTailoring → Machine
with_tailoring m None = m
with_tailoring m (Some t) = record m { pseudo_symbol_map = t.pseudo_symbol_map; symbol_map = t.symbol_map }

-- the symbol and the script in the place of a symbol: those of its entry, or itself and none
unfoldable pub replaced : List Replacement → ℕ → ℕ × ComplexScript
replaced [] symbol = (symbol, NoScript)
replaced (entry ∷ entries) symbol = if entry.0 == symbol then (entry.1, entry.2) else replaced entries symbol

-- the symbol and the script of a code point: the pseudo symbols, from the shift on, are entries of the map, and
-- the symbols below it may be replaced
unfoldable pub symbol_and_script : Machine → ℕ → ℕ × ComplexScript
symbol_and_script m code_point =
    let value = value_of m.symbols code_point in
    if nat_lt value m.pseudo_symbol_shift
    then replaced m.symbol_map value
    else slice_index_or m.pseudo_symbol_map (value - m.pseudo_symbol_shift) (0, NoScript)

abbrev pub symbols_of : Machine → List ℕ → List ℕ
symbols_of m code_points = map (λ code_point. (symbol_and_script m code_point).0) code_points

-- how many symbols the transitions are for; symbol 0 is the end of the text
unfoldable pub symbol_count : Machine → ℕ
symbol_count m = length m.transitions / length m.states

-- of so many symbols, those that a code point may have
abbrev pub IsSymbolOf : ℕ → ℕ → Type 0
IsSymbolOf count symbol = (0 < symbol) × (symbol < count)

-- the symbols that a code point may have
abbrev pub IsTextSymbol : Machine → ℕ → Type 0
IsTextSymbol m symbol = IsSymbolOf (symbol_count m) symbol

-- the state that a symbol leads to; 255 means none
unfoldable pub step : Machine → ℕ → ℕ → Option ℕ
step m state symbol =
    let next = slice_index m.transitions (state + symbol * length m.states) in
    if next == 255 then None else Some next

-- the states that the symbols lead to from a state, up to the first that leads to none
unfoldable pub run : Machine → ℕ → List ℕ → List ℕ
run m state [] = []
run m state (symbol ∷ symbols) =
    option_map_or (λ next. next ∷ run m next symbols) (step m state symbol) []

-- the scan of a text: the states that its symbols and then symbol 0, again and again, lead to from START (state 0).
-- Where symbol 0 goes round in no cycle, it leads on at most as often as there are states.
unfoldable pub scan : Machine → List ℕ → List ℕ
scan m symbols = run m 0 (symbols ++ replicate (length m.states) 0)

-- the state that symbol 0, so many times, leads to from a state
unfoldable pub state_after_ends : Machine → ℕ → ℕ → Option ℕ
state_after_ends m state zero = Some state
state_after_ends m state (suc steps) = option_and_then (λ next. state_after_ends m next steps) (step m state 0)

-- what a state accepts and names
unfoldable pub state_at : Machine → ℕ → Acceptance × Option ℕ
state_at m state = slice_index_or m.states state (Continue, None)

-- What is in the place of symbols.

-- what the table has at a symbol
abbrev pub placed_at : List (ℕ × ComplexScript) → ℕ → ℕ × ComplexScript
placed_at table symbol = slice_index_or table symbol (0, NoScript)

-- symbol 0 means none
abbrev pub shown_at : List (ℕ × ComplexScript) → ℕ → ℕ × ComplexScript
shown_at table symbol = if (placed_at table symbol).0 == 0 then (symbol, NoScript) else placed_at table symbol

-- the table has for each symbol what replaces it
abbrev pub ArePlaced : List Replacement → List (ℕ × ComplexScript) → Type 0
ArePlaced entries table = (symbol : ℕ) → symbol < 256 → replaced entries symbol ≡ shown_at table symbol

-- what a tailoring, if there is one, puts in the place of symbols
abbrev pub replacements_of : Option MachineTailoring → List Replacement
replacements_of None = []
replacements_of (Some t) = t.symbol_map

-- the machine with this map of pseudo symbols, and with the symbols that a tailoring replaces, if there is one
abbrev pub with_parts : Machine → List (ℕ × ComplexScript) → Option MachineTailoring → Machine
with_parts m map replacing = with_tailoring m (Some (tailoring map (replacements_of replacing)))

-- below this value nothing is a pseudo symbol or replaced
abbrev pub ArePlainBelow : Machine → ℕ → Type 0
ArePlainBelow m end = (value : ℕ) → value < end → (value < m.pseudo_symbol_shift) × (replaced m.symbol_map value ≡ (value, NoScript))

-- the machine without its transitions
abbrev pub without_transitions : Machine → Machine
without_transitions m = record m { transitions = [] }

-- each pseudo symbol of a code point has an entry of the map
abbrev pub HasEntries : Machine → Type 0
HasEntries m = (code_point : ℕ) → m.pseudo_symbol_shift ≤ value_of m.symbols code_point
    → value_of m.symbols code_point - m.pseudo_symbol_shift < length m.pseudo_symbol_map
