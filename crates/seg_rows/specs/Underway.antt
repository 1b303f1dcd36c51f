-- A segment that is read, and what is known of it.
use Rattle.std.specs.Prelude.{◌≡◌, ◌≢◌, ℕ, ◌+◌, ◌*◌, ◌<◌, ◌≤◌, Bool, true, Option, Some, List, [], ◌∷◌, ◌++◌, drop, length, take, MatchOption}
use Rattle.seg_text.specs.declared.boundary.Boundary.{Boundary}
use Rattle.seg_text.specs.Boundaries.{boundary, boundaries_in, later_boundaries, offsets}
use Rattle.seg_text.specs.Filled.{last_status}
use Rattle.seg_text.specs.Items.{Item, Text, prefix_length, start_of, rest_after}
use Rattle.seg_machine.specs.Machine.{Machine, state_at, symbol_and_script}
use Rattle.seg_machine.specs.Pick.{acceptance_status, machine_stretch}
use Rattle.seg_machine.specs.Scan.{IsPicked, IsSymbolAhead, Scanned}
use Rattle.seg_machine.specs.DenseRows.{row_entry, slow}

-- the scan of a text has found its pick, and stands at this place: the symbol of what is left there is read ahead
pub record IsScannedTo (m : Machine) (text : Text) (picked : Boundary) (stood symbol : ℕ) (after : Text) : Type 0 where
  pub pick : IsPicked m text picked
  pub passed : ℕ
  pub place : stood ≡ start_of (rest_after passed text)
  pub ahead : IsSymbolAhead m (rest_after passed text) symbol after

-- the scan of a text has come to the state of this row, and this is left: where the state accepts, that is the last acceptance
pub record IsUnderway (m : Machine) (text : Text) (row : ℕ) (left : Text) : Type 0 where
  pub state : ℕ
  pub row_is : row ≡ state * 256
  pub kept : List (Option ℕ)
  pub last : Option Boundary
  pub scanned : Scanned m text state left kept last
  pub agrees : (status : ℕ) → acceptance_status (state_at m state) ≡ Some status → last ≡ Some (boundary (start_of left) status)

-- what is left behind a boundary is underway, if there is anything
abbrev pub IsAhead : Machine → Text → ℕ → Text → Type 0
IsAhead m rest row after = rest.items ≢ [] → IsUnderway m rest row after

-- what a state's row says of a code point: what the state does by its symbol, or nothing of a symbol from 128 on
pub record IsEntryOf (m : Machine) (state code_point entry : ℕ) : Type 0 where
  pub few : (symbol_and_script m code_point).0 < 128 → entry ≡ row_entry m state (symbol_and_script m code_point).0
  pub many : 128 ≤ (symbol_and_script m code_point).0 → entry ≡ slow

-- what a state's row says of the next symbol of a text, if its code point passes a test, and what is left after it. It says nothing at the end, and
-- it may say nothing of a symbol from 128 on
pub record IsNextEntry (m : Machine) (passes : ℕ → Bool) (text : Text) (state entry : ℕ) (after : Text) : Type 0 where
  pub symbol : ℕ
  pub ahead : IsSymbolAhead m text symbol after
  pub says : entry ≢ slow → entry ≡ row_entry m state symbol
  pub known : (item : Item) (items : List Item) → text.items ≡ item ∷ items → passes item.1 ≡ true → symbol < 128 → entry ≡ row_entry m state symbol
  pub read : entry ≢ slow → (item : Item) × (text.items ≡ item ∷ after.items) × (passes item.1 ≡ true)

-- the scan of a text has come to a place, in the state of this row
abbrev pub IsStuck : Machine → Text → ℕ → ℕ → Type 0
IsStuck m text row place = (left : Text) × IsUnderway m text row left × (place ≡ start_of left)

-- the boundaries of a text behind its start
abbrev pub behind : Machine → Text → List Boundary
behind m text = boundaries_in (later_boundaries (machine_stretch m)) text

-- of a text this is left, once some of its items are read
abbrev pub IsLater : Text → Text → Type 0
IsLater text left = (count : ℕ) × (left ≡ rest_after count text)

-- .. whose code points all pass a test
abbrev pub HasPassed : (ℕ → Bool) → Text → Text → Type 0
HasPassed passes text left = (count : ℕ) × (count ≤ prefix_length passes text) × (left ≡ rest_after count text)

-- the next boundary behind a text's start was given, and this is left behind it; or none, at the end
abbrev pub GivesBehind : Machine → Text → Option Boundary → Text → Type 0
GivesBehind m text given left =
    MatchOption given ((text.items ≡ []) × (left ≡ text))
    (λ found. (behind m text ≡ found ∷ behind m left) × (found.offset ≡ start_of left) × IsLater text left)

-- of a text's boundaries behind its start some were given, and this is left. Before, `from` were, and the last of all had the status
-- `before`. Their places stand in a buffer, behind those `from`, and what stands behind them there is as it was
pub record IsGiven (m : Machine) (text left : Text) (from count before status : ℕ) (old new : List ℕ) : Type 0 where
  pub given : List Boundary
  pub whole : behind m text ≡ given ++ behind m left
  pub counted : count ≡ from + length given
  pub status_is : status ≡ last_status before given
  pub written : take count new ≡ take from old ++ offsets given
  pub later : drop count new ≡ drop count old
