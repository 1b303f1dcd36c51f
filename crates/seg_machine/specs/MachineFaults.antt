-- The faults of machines and of their tailorings.
use Rattle.std.specs.Prelude.{◌≡◌, ◌≢◌, ℕ, ◌+◌, ◌*◌, ◌<◌, ◌≤◌, ◌⊎◌, suc, Option, Some, List, [], ◌∷◌, length, map, IsSomeAnd, Any, Contains, replicate, IfSome}
use Rattle.seg_data.specs.declared.provider.DataError.{DataError}
use Rattle.seg_data.specs.declared.provider.DataError.TheVariants.{StateCount, TransitionSize, TransitionOutOfRange, SymbolOutOfRange, TooManyLookaheads, LookaheadOutOfRange, EndCycle, Stalls}
use Rattle.seg_data.specs.declared.provider.ComplexScript.TheVariants.{None as NoScript}
use Rattle.seg_data.specs.Table.{named_values}
use Rattle.seg_machine.specs.declared.provider.Acceptance.{Acceptance}
use Rattle.seg_machine.specs.declared.provider.Acceptance.TheVariants.{Continue, Accept, Conditional}
use Rattle.seg_machine.specs.Machine.{Machine, MachineTailoring, Replacement, IsSymbolOf, IsTextSymbol, with_tailoring, symbol_and_script, symbol_count, state_after_ends, step, run, state_at}
use Rattle.seg_machine.specs.Pick.{HasStall, IsStallFree}

-- of so many symbols, with this shift and so many entries of the map, a value gives no symbol of a text
abbrev pub IsStray : ℕ → ℕ → ℕ → ℕ → Type 0
IsStray count shift entries value =
    ((value < shift) × (IsSymbolOf count value → ⊥)) ⊎ (shift + entries ≤ value)

-- of so many symbols and with this shift, an entry doesn't put a symbol of a text in the place of one below the shift
abbrev pub IsStrayReplacement : ℕ → ℕ → Replacement → Type 0
IsStrayReplacement count shift entry =
    ((IsSymbolOf count entry.0 → ⊥) ⊎ (shift ≤ entry.0)) ⊎ (IsSymbolOf count entry.1 → ⊥)

-- a condition's lookahead isn't below the number of lookaheads
abbrev pub IsConditionPast : ℕ → Acceptance → Type 0
IsConditionPast count (Conditional lookahead status) = count ≤ lookahead
IsConditionPast count (Accept status) = ⊥
IsConditionPast count Continue = ⊥

-- a lookahead that the state names, or that of its condition, isn't below the number of lookaheads
abbrev pub NamesPast : ℕ → Acceptance × Option ℕ → Type 0
NamesPast count state = IsSomeAnd state.1 (λ lookahead. count ≤ lookahead) ⊎ IsConditionPast count state.0

-- from some state, symbol 0 leads back to it
abbrev pub HasEndCycle : Machine → Type 0
HasEndCycle m = (state steps : ℕ) × (state < length m.states) × (state_after_ends m state (suc steps) ≡ Some state)

-- the faults of a machine's parts
abbrev pub HasMachineFault : Machine → DataError → Type 0
-- no state, or more than 255
HasMachineFault m StateCount = (length m.states ≡ 0) ⊎ (255 < length m.states)
-- not one transition for each state and each of 1 to 256 symbols
HasMachineFault m TransitionSize =
    (count : ℕ) → 0 < count → count ≤ 256 → length m.transitions ≢ length m.states * count
-- a transition is neither 255 nor a state
HasMachineFault m TransitionOutOfRange = Any (λ next. (next ≢ 255) × (length m.states ≤ next)) m.transitions
-- a value that the table of symbols names is stray, an entry of the map gives no symbol of a text, or a replacement is stray
HasMachineFault m SymbolOutOfRange =
    (Any (IsStray (symbol_count m) m.pseudo_symbol_shift (length m.pseudo_symbol_map)) (named_values m.symbols)
    ⊎ Any (λ entry. IsTextSymbol m entry.0 → ⊥) m.pseudo_symbol_map)
    ⊎ Any (IsStrayReplacement (symbol_count m) m.pseudo_symbol_shift) m.symbol_map
-- there are more than 8 lookaheads
HasMachineFault m TooManyLookaheads = 8 < m.num_lookaheads
-- a state names a lookahead that there isn't, or is a condition on one
HasMachineFault m LookaheadOutOfRange = Any (NamesPast m.num_lookaheads) m.states
-- symbol 0 goes round in a cycle
HasMachineFault m EndCycle = HasEndCycle m
-- some text that isn't empty has no pick
HasMachineFault m Stalls = HasStall m
HasMachineFault m _ = ⊥

-- an entry's symbol, or that in its place, is the symbol of the end
abbrev pub NamesEnd : Replacement → Type 0
NamesEnd entry = (entry.0 ≡ 0) ⊎ (entry.1 ≡ 0)

-- some number stands twice
abbrev pub HasTwice : List ℕ → Type 0
HasTwice [] = ⊥
HasTwice (number ∷ numbers) = Contains numbers number ⊎ HasTwice numbers

-- the fault of a tailoring by itself
abbrev pub HasOverrideFault : MachineTailoring → DataError → Type 0
-- an entry names the symbol of the end, or a symbol is replaced twice
HasOverrideFault t SymbolOutOfRange =
    (Any (λ entry. entry.0 ≡ 0) t.pseudo_symbol_map ⊎ Any NamesEnd t.symbol_map) ⊎ HasTwice (map (λ entry. entry.0) t.symbol_map)
HasOverrideFault t _ = ⊥

-- the fault of a tailoring, if there is one, with its machine: the machine that it makes gives stray symbols
abbrev pub HasTailoringFault : Machine → Option MachineTailoring → DataError → Type 0
HasTailoringFault m (Some t) SymbolOutOfRange = HasMachineFault (with_tailoring m (Some t)) SymbolOutOfRange
HasTailoringFault m _ _ = ⊥

-- a code point below U+0100, which Latin-1 has too, has a script
abbrev pub HasComplexBelow0100 : Machine → Type 0
HasComplexBelow0100 m = (code_point : ℕ) × (code_point < 0x100) × ((symbol_and_script m code_point).1 ≢ NoScript)

-- What a checked machine keeps.

-- each code point has a symbol of a text
abbrev pub HasTextSymbols : Machine → Type 0
HasTextSymbols m = (code_point : ℕ) → IsTextSymbol m (symbol_and_script m code_point).0

pub record IsChecked (m : Machine) : Type 0 where
  pub some_state : 0 < length m.states
  pub few_states : length m.states ≤ 255
  pub text_symbols : HasTextSymbols m
  -- a step leads to a state
  pub in_range : (state symbol : ℕ) → state < length m.states → symbol < symbol_count m → IfSome (step m state symbol) (λ next. next < length m.states)
  -- there are at most 8 lookaheads, and each that a state names or asks for is one of them
  pub few_lookaheads : m.num_lookaheads ≤ 8
  pub lookaheads : (state : ℕ) → NamesPast m.num_lookaheads (state_at m state) → ⊥
  -- symbol 0 goes round in no cycle: it leads on less often than there are states
  pub ends : (state : ℕ) → state < length m.states → length (run m state (replicate (length m.states) 0)) < length m.states
  pub stall_free : IsStallFree m
