-- What is found once of the places that no scan passes: bits, for each two symbols.
use Rattle.std.specs.Prelude.{◌≡◌, ◌↔◌, ℕ, ◌+◌, ◌*◌, ◌<◌, ◌≤◌, None, Some, IfSome, List, [], Contains, length, slice_index, slice_index_or}
use Rattle.std.specs.Int.{bit_at}
use Rattle.seg_machine.specs.Certain.{GoesOnBy, IsCertain, StopsBetween}
use Rattle.seg_machine.specs.Machine.{Machine, step, symbol_count}

-- a number that has a bit for each symbol: 0 where no scan passes to it from the second of two others
abbrev pub IsMask : Machine → ℕ → ℕ → ℕ → Type 0
IsMask m before one mask = (other : ℕ) → other < symbol_count m → (bit_at mask other ≡ 0) ↔ IsCertain m before one other

-- a mask for each two symbols, and how many symbols there are
pub record PassData : Type 0 where
  pub masks : List ℕ
  pub symbols : ℕ

pub record HasMasks (m : Machine) (passes : PassData) : Type 0 where
  pub symbols : passes.symbols ≡ symbol_count m
  pub size : length passes.masks ≡ symbol_count m * symbol_count m
  pub stand : (before one : ℕ) → before < symbol_count m → one < symbol_count m → IsMask m before one (slice_index passes.masks (before * symbol_count m + one))

-- machines of up to 128 symbols have them, others have none
abbrev pub ArePasses : Machine → PassData → Type 0
ArePasses m passes = (symbol_count m ≤ 128 → HasMasks m passes) × (128 < symbol_count m → passes.masks ≡ [])

-- How they are found.

-- a number that has a bit for each symbol: 0 where the state has no step by it
abbrev pub IsStepMask : Machine → ℕ → ℕ → Type 0
IsStepMask m state mask = (symbol : ℕ) → symbol < symbol_count m → (bit_at mask symbol ≡ 0) ↔ (step m state symbol ≡ None)

-- .. of each state
pub record AreStepMasks (m : Machine) (masks : List ℕ) : Type 0 where
  pub size : length masks ≡ length m.states
  pub stand : (state : ℕ) → state < length m.states → IsStepMask m state (slice_index masks state)

-- .. 0 where a scan in the state that reads the one symbol doesn't go on by it
abbrev pub IsStopMask : Machine → ℕ → ℕ → ℕ → Type 0
IsStopMask m state one mask = (other : ℕ) → other < symbol_count m → (bit_at mask other ≡ 0) ↔ StopsBetween m state one other

abbrev pub AreStates : Machine → List ℕ → Type 0
AreStates m states = (place : ℕ) → place < length states → slice_index_or states place 0 < length m.states

-- the states that a symbol leads to
pub record AreStatesBehind (m : Machine) (symbol : ℕ) (states : List ℕ) : Type 0 where
  pub all : (state : ℕ) → state < length m.states → IfSome (step m state symbol) (Contains states)
  pub only : (place : ℕ) → place < length states → (state : ℕ) × (state < length m.states) × (step m state symbol ≡ Some (slice_index_or states place 0))

-- scans in each of some states do so
abbrev pub AllStop : Machine → List ℕ → ℕ → ℕ → Type 0
AllStop m states one other = (place : ℕ) → place < length states → StopsBetween m (slice_index_or states place 0) one other

abbrev pub AllGoOn : Machine → List ℕ → ℕ → Type 0
AllGoOn m states symbol = (place : ℕ) → place < length states → GoesOnBy m (slice_index_or states place 0) symbol

-- a number that has a bit for each symbol: 0 where no scan passes to it from the one, which it reads in one of these states, or starts at, if one may
abbrev pub IsMaskBehind : Machine → List ℕ → ℕ → ℕ → Type 0
IsMaskBehind m states one mask =
    (other : ℕ) → other < symbol_count m → (bit_at mask other ≡ 0) ↔ (AllStop m states one other × ((StopsBetween m 0 one other → ⊥) → AllGoOn m states one))

-- the masks that have a first symbol stand behind others
pub record HasMoreMasks (m : Machine) (before : ℕ) (old new : List ℕ) : Type 0 where
  pub size : length new ≡ length old + symbol_count m
  pub keeps : (place : ℕ) → place < length old → slice_index new place ≡ slice_index old place
  pub stand : (one : ℕ) → one < symbol_count m → IsMask m before one (slice_index new (length old + one))
