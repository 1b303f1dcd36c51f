-- What the rows of a machine say: for each state what it does by each ASCII character, and by each symbol.
use Rattle.std.specs.Prelude.{◌≡◌, ℕ, ◌+◌, ◌-◌, ◌*◌, ◌/◌, ◌%◌, ◌<◌, ◌≤◌, nat_lt, if◌then◌else◌, Bool, IsTrue, Option, Some, None, List, length, slice_index, unwrap_or}
use Rattle.std.specs.Option.{option_map_or}
use Rattle.seg_data.specs.declared.provider.ComplexScript.{ComplexScript}
use Rattle.seg_data.specs.declared.provider.ComplexScript.TheVariants.{None as NoScript}
use Rattle.seg_machine.specs.Machine.{Machine, step, state_at, symbol_and_script, symbol_count}
use Rattle.seg_machine.specs.declared.provider.Acceptance.{Acceptance}
use Rattle.seg_machine.specs.declared.provider.Acceptance.TheVariants.{Continue, Accept, Conditional}
use Rattle.seg_machine.specs.Passes.{ArePasses, PassData}
use Rattle.seg_machine.specs.Pick.{acceptance_status}

-- the entry that says nothing
abbrev pub slow : ℕ
slow = 0xFFFF

-- a segment goes on to a state: 256 times that state. Of a condition nothing is said, since the segment may end earlier by it
abbrev pub entry_to : Acceptance → ℕ → ℕ
entry_to (Conditional lookahead status) next = slow
entry_to (Accept status) next = next * 256
entry_to Continue next = next * 256

-- a segment ends, with this status if it may, and START goes on to a state, if it does: 256 times that state, and 1 more
abbrev pub entry_after : Option ℕ → Option ℕ → ℕ
entry_after (Some status) (Some next) = next * 256 + 1
entry_after (Some status) None = slow
entry_after None begins = slow

-- what a state does by a symbol: it goes on, or it is the last state of a segment
unfoldable pub row_entry : Machine → ℕ → ℕ → ℕ
row_entry m state symbol =
    option_map_or
    (λ next. entry_to (state_at m next).0 next)
    (step m state symbol)
    (entry_after (acceptance_status (state_at m state)) (step m 0 symbol))

-- what stands at a place of a state's row: its entry for an ASCII character, or for the symbol 128 below the place, if there is one
abbrev pub place_entry : Machine → ℕ → ℕ → ℕ
place_entry m state place =
    if nat_lt place 128
    then row_entry m state (symbol_and_script m place).0
    else (if nat_lt (place - 128) (symbol_count m) then row_entry m state (place - 128) else slow)

-- the entry of this index
abbrev pub index_entry : Machine → ℕ → ℕ
index_entry m index = place_entry m (index / 256) (index % 256)

-- a row of 256 entries for each state
pub record AreRows (m : Machine) (entries : List ℕ) : Type 0 where
  pub size : length entries ≡ length m.states * 256
  pub stand : (index : ℕ) → index < length entries → slice_index entries index ≡ index_entry m index

-- the status that a state accepts with, and 0 for one that doesn't
abbrev pub status_of : Machine → ℕ → ℕ
status_of m state = unwrap_or (acceptance_status (state_at m state)) 0

-- the status of a segment that ends in a state at the end of the text: the state accepts, and the end leads nowhere
unfoldable pub end_status : Machine → ℕ → Option ℕ
end_status m state = option_map_or (λ next. None) (step m state 0) (acceptance_status (state_at m state))

-- the statuses of the states
pub record AreStatuses (m : Machine) (statuses : List ℕ) : Type 0 where
  pub size : length statuses ≡ length m.states
  pub stand : (state : ℕ) → state < length statuses → slice_index statuses state ≡ status_of m state

-- a symbol, and 128 more where it comes with a script
abbrev pub marked : ℕ × ComplexScript → ℕ
marked (symbol, NoScript) = symbol
marked (symbol, script) = symbol + 128

-- the symbols of the first code points, each at its code point, marked where it has a script: of a machine with at most 128 symbols
pub record AreSymbols (m : Machine) (symbols : List ℕ) : Type 0 where
  pub few : 0 < length symbols → symbol_count m ≤ 128
  pub stand : (code_point : ℕ) → code_point < length symbols → slice_index symbols code_point ≡ marked (symbol_and_script m code_point)

-- no ASCII character has a script
abbrev pub IsPlain : Machine → Type 0
IsPlain m = (code_point : ℕ) → code_point < 128 → (symbol_and_script m code_point).1 ≡ NoScript

-- what the rows of a machine are: its entries, the statuses of its states, the symbols of the first code points once more, whether ASCII has no
-- scripts, and its certain places
pub record RowData : Type 0 where
  pub entries : List ℕ
  pub statuses : List ℕ
  pub symbols : List ℕ
  pub is_plain : Bool
  pub passes : PassData

pub record IsRowData (m : Machine) (rows : RowData) : Type 0 where
  pub entries : AreRows m rows.entries
  pub statuses : AreStatuses m rows.statuses
  pub symbols : AreSymbols m rows.symbols
  pub plain : IsTrue rows.is_plain → IsPlain m
  pub passes : ArePasses m rows.passes
