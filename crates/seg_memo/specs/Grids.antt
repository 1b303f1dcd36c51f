-- The table of configurations: a map from configurations to cells, and what it tells of the scans.
use Rattle.std.specs.Prelude.{◌≡◌, ℕ, suc, ◌+◌, ◌-◌, ◌*◌, ◌^◌, ◌<◌, ◌≤◌, ◌⊎◌, ◌==◌, Bool, if◌then◌else◌, Option, Some, None, List, [], ◌∷◌, ◌++◌, drop, length, min, slice_index_or, vec_capacity}
use Rattle.seg_memo.specs.Configurations.{Boundary, Configuration, Outcome, Nothing, Picked, Kept, Leads, Subject, configuration, configurations, reading, following, look_ups, all_look_ups, start_at, AreStarts, different, entered, floor, later, outcome_at, look_up}
use Rattle.seg_text.specs.Items.{Text, code_points, rest_after, start_of}
use Rattle.seg_machine.specs.Machine.{Machine, state_at, symbol_count, symbols_of}
use Rattle.seg_machine.specs.MachineFaults.{IsChecked}
use Rattle.seg_machine.specs.Pick.{pick}
use Rattle.seg_text.specs.Boundaries.{shift}
pub use Rattle.seg_memo.specs.declared.configuration.Cell.{Cell}
pub use Rattle.seg_memo.specs.declared.configuration.Cell.TheVariants.{Unknown, First, Way, KnownNothing, KnownKept}
pub use Rattle.seg_memo.specs.declared.search.Scanned.{Scanned}
pub use Rattle.seg_memo.specs.declared.table.Table.{Table}

-- Cells.

-- the outcome that a cell holds
abbrev pub known : Cell → Option Outcome
known KnownNothing = Some Nothing
known (KnownKept lookahead status) = Some (Kept lookahead status)
known _ = None

-- the cell that holds an outcome; none holds a segment's end
abbrev pub holding : Outcome → Option Cell
holding Nothing = Some KnownNothing
holding (Picked found) = None
holding (Kept lookahead status) = Some (KnownKept lookahead status)

-- the cell of a configuration that a scan reaches from another: it says whether the place stayed
abbrev pub way_from : Configuration → Configuration → Cell
way_from before here = Way before.state before.kept (here.place == before.place)

-- the configuration that such a cell leads back to
abbrev pub came_from : Configuration → ℕ → ℕ → Bool → Configuration
came_from here state kept stays = configuration state (if stays then here.place else here.place - 1) kept

-- Texts, machines and cursors.

-- a configuration of a text
pub record IsConfigurationOf (s : Subject) (c : Configuration) : Type 0 where
  pub state : c.state < length s.machine.states
  pub place : c.place ≤ length s.symbols
  pub kept : c.kept < 2 ^ s.machine.num_lookaheads

-- the machine is checked, the symbols are some of its own, and a word can count the configurations
pub record IsSound (s : Subject) : Type 0 where
  pub checked : IsChecked s.machine
  pub own : (place : ℕ) → slice_index_or s.symbols place 0 < symbol_count s.machine
  pub room : configurations s.machine (length s.symbols) < 2 ^ 64

-- a machine with the symbols of a text, and that text
pub record Source : Type 0 where
  pub subject : Subject
  pub whole : Text

-- a scan of it, from a place on
pub record Scan : Type 0 where
  pub source : Source
  pub start : ℕ

-- one that names a lookahead, and the last acceptance before that
pub record Named : Type 0 where
  pub source : Source
  pub start : ℕ
  pub last : Option Boundary

-- a reader has so many states and these transitions: the machine is read by it, and the symbols are those of the text
pub record IsReadBy (r : Source) (m : Machine) (states : ℕ) (transitions : List ℕ) : Type 0 where
  pub machine : r.subject.machine ≡ reading m transitions
  pub symbols : r.subject.symbols ≡ symbols_of m (code_points r.whole.items)
  pub states_are : states ≡ length m.states

-- the symbol at a place of the text, or that of the end, is read, and this is left after it
pub record IsKeptSymbol (r : Source) (place symbol : ℕ) (after : Text) : Type 0 where
  pub symbol_is : symbol ≡ slice_index_or r.subject.symbols place 0
  pub rest : after ≡ rest_after (min (suc place) (length r.subject.symbols)) r.whole

-- The table as a map.

-- the number of a configuration, of so many states and so many sets at each place
unfoldable pub number : ℕ → ℕ → Configuration → ℕ
number states sets c = (c.place * sets + c.kept) * states + c.state

-- the cell of a configuration
unfoldable pub cell : Table → Configuration → Cell
cell t c = slice_index_or t.cells.items (number t.states t.sets c - t.first) Unknown

-- there is one, which wasn't let go
pub record HasCell (t : Table) (c : Configuration) : Type 0 where
  pub state : c.state < t.states
  pub kept : c.kept < t.sets
  pub first : t.first ≤ number t.states t.sets c
  pub room : number t.states t.sets c < vec_capacity t.cells
  pub fits : number t.states t.sets c < 2 ^ 64

-- the cells of a place and of those after it stay
pub record IsLeft (old new : Table) (from : ℕ) : Type 0 where
  pub at : (c : Configuration) → from ≤ c.place → HasCell old c → HasCell new c × (cell new c ≡ cell old c)

-- so do they but for one, which is this
pub record IsSet (old new : Table) (from : ℕ) (here : Configuration) (x : Cell) : Type 0 where
  pub own : cell new here ≡ x
  pub others : (c : Configuration) → from ≤ c.place → HasCell old c → HasCell new c × ((c ≡ here → ⊥) → cell new c ≡ cell old c)

-- What it tells of scans.

abbrev pub IsOn : Configuration → List Configuration → Type 0
IsOn c [] = ⊥
IsOn c (d ∷ path) = (c ≡ d) ⊎ IsOn c path

-- a list in reverse order, and another after it
abbrev pub onto : List Configuration → List Configuration → List Configuration
onto [] found = found
onto (c ∷ path) found = onto path (c ∷ found)

-- the cell of a configuration that no scan is at, where those on a list were looked up: its own is not among them, or the cell holds its outcome
abbrev pub Tells : Subject → List Configuration → Configuration → Cell → Type 0
Tells s found c x = ((x ≡ Unknown) × (IsOn c found → ⊥)) ⊎ ((known x ≡ Some (outcome_at s c)) × IsOn c found)

-- so does each from a place on, but for those on another list
pub record TellFrom (s : Subject) (t : Table) (from : ℕ) (found but : List Configuration) : Type 0 where
  pub at : (c : Configuration) → IsConfigurationOf s c → from ≤ c.place → (IsOn c but → ⊥) → Tells s found c (cell t c)

-- the configurations of a text have cells from a place on
pub record IsFit (s : Subject) (t : Table) (from : ℕ) : Type 0 where
  pub sound : IsSound s
  pub has : (c : Configuration) → IsConfigurationOf s c → from ≤ c.place → HasCell t c

-- the scans of the segments up to a place were made, which looked up so many configurations
pub record IsMemo (s : Subject) (t : Table) (counted place : ℕ) : Type 0 where
  pub starts : List ℕ
  pub are : AreStarts s starts place
  pub within : place ≤ length s.symbols
  pub fit : IsFit s t place
  pub cells : TellFrom s t (suc place) (all_look_ups s starts) []
  pub count : counted ≡ different (all_look_ups s starts)

-- so was the scan from a place, whose segment ends here: with the pick of what is left of the text there
pub record IsScanned (s : Subject) (t : Table) (counted start : ℕ) (found : Boundary) : Type 0 where
  pub memo : IsMemo s t counted found.offset
  pub past : start ≤ found.offset
  pub segment : (p : Boundary) × (pick s.machine (drop start s.symbols) ≡ Some p) × (found ≡ shift start p)

-- the next scan may begin, of what the code has in hand: those before were made, this is left of the text, and its first symbol is read
pub record IsReady (r : Source) (t : Table) (counted place : ℕ) (text : Text) (symbol : ℕ) (after : Text) : Type 0 where
  pub memo : IsMemo r.subject t counted place
  pub rest : text ≡ rest_after place r.whole
  pub ahead : IsKeptSymbol r place symbol after

-- it has ended: a cursor stands at its pick, and the symbol at a place is read
pub record IsEnded (c : Scan) (t : Table) (counted : ℕ) (s : Scanned) (symbol : ℕ) (after : Text) : Type 0 where
  pub scanned : IsScanned c.source.subject t counted c.start s.pick
  pub stands : s.stood ≡ start_of (rest_after s.pick.offset c.source.whole)
  pub ahead : IsKeptSymbol c.source s.place symbol after

-- a configuration that a scan looked up before another, where no lookahead was named
pub record Before (s : Subject) (here d : Configuration) : Type 0 where
  pub within : IsConfigurationOf s d
  pub free : d.kept ≡ 0
  pub place : d.place ≤ here.place
  pub longer : length (following s here) ≤ length (following s d)

-- a scan reaches a configuration, the first that names a lookahead: with the last acceptance before it, the segments before, and
-- what it looked up so far
pub record Comes (s : Subject) (start : ℕ) (last : Option Boundary) (first : Configuration) : Type 0 where
  pub starts : List ℕ
  pub are : AreStarts s starts start
  pub some : start < length s.symbols
  pub passed : List Configuration
  pub before : (d : Configuration) → IsOn d passed → Before s first d
  pub covers : look_ups s (start_at start) ≡ onto passed (look_ups s first)
  pub within : IsConfigurationOf s first
  pub kept : 0 < first.kept
  pub high : start < floor first.place last
  pub low : floor first.place last ≤ first.place
  pub is : outcome_at s (start_at start) ≡ later last (entered first.place (state_at s.machine first.state) (outcome_at s first))
  pub picks : outcome_at s (start_at start) ≡ Nothing → ⊥

-- so many configurations were looked up, those on a list. Each cell from the last acceptance on tells but for some, and where that
-- acceptance is the pick, also each after it that keeps no lookahead
pub record Keeps (s : Subject) (t : Table) (counted : ℕ) (last : Option Boundary) (first : Configuration) (found but : List Configuration) : Type 0 where
  pub fit : IsFit s t (floor first.place last)
  pub cells : TellFrom s t (floor first.place last) found but
  pub plain : (b : Boundary) → last ≡ Some b → entered first.place (state_at s.machine first.state) (outcome_at s first) ≡ Nothing
      → (c : Configuration) → IsConfigurationOf s c → suc b.offset ≤ c.place → c.kept ≡ 0 → Tells s found c (cell t c)
  pub count : counted ≡ different found

-- it is to look up that configuration
pub record IsNamed (s : Subject) (t : Table) (counted start : ℕ) (last : Option Boundary) (first : Configuration) : Type 0 where
  pub comes : Comes s start last first
  pub keeps : Keeps s t counted last first (comes.passed ++ all_look_ups s comes.starts) comes.passed

-- a configuration that it reaches from there
pub record OnWay (s : Subject) (first here : Configuration) : Type 0 where
  pub within : IsConfigurationOf s here
  pub past : first.place ≤ here.place
  pub kept : 0 < here.kept

-- the cells hold the way back from a configuration to the first of its scan
abbrev pub IsWay : Subject → Table → Configuration → Configuration → List Configuration → Type 0
IsWay s t first here [] = (here ≡ first) × OnWay s first here × (cell t here ≡ First)
IsWay s t first here (before ∷ path) =
    (look_up s before ≡ Leads here) × OnWay s first here × (cell t here ≡ way_from before here) × IsWay s t first before path

-- from there it goes on: it looked up the configurations of a path, this one last, and the cells hold the way back
pub record IsUnderWay (s : Subject) (t : Table) (counted start : ℕ) (last : Option Boundary) (first here : Configuration) : Type 0 where
  pub comes : Comes s start last first
  pub path : List Configuration
  pub way : IsWay s t first here path
  pub keeps : Keeps s t counted last first ((here ∷ (path ++ comes.passed)) ++ all_look_ups s comes.starts) (here ∷ (path ++ comes.passed))

-- it went on to its last look-up, or goes back from there: the cells hold the way back, and this one's outcome is known
pub record Went (s : Subject) (t : Table) (counted start : ℕ) (last : Option Boundary) (first here : Configuration) (o : Outcome) : Type 0 where
  pub comes : Comes s start last first
  pub path : List Configuration
  pub way : IsWay s t first here path
  pub keeps : Keeps s t counted last first (all_look_ups s (start ∷ comes.starts)) (here ∷ (path ++ comes.passed))
  pub is : o ≡ outcome_at s here

-- it was made, and this is the first's outcome: the cells that still hold a way are before the pick, and the first's own may not tell
pub record IsWalked (s : Subject) (t : Table) (counted start : ℕ) (last : Option Boundary) (first : Configuration) (o : Outcome) : Type 0 where
  pub comes : Comes s start last first
  pub path : List Configuration
  pub ends : (d : Configuration) → IsOn d path → (f : Boundary) × (o ≡ Picked f) × (outcome_at s d ≡ Picked f)
  pub keeps : Keeps s t counted last first (all_look_ups s (start ∷ comes.starts)) (first ∷ (path ++ comes.passed))
  pub is : o ≡ outcome_at s first
