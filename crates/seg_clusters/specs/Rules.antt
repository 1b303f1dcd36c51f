-- What the boundaries of a text are found by.
use Rattle.std.specs.Prelude.{⊤, IsTrue, ℕ, Option, Some, None, List, ◌≡◌, ◌<◌, length, IfSome, [], ◌∷◌, ◌++◌, drop}
use Rattle.std.specs.Char.{encode_utf8}
use Rattle.std.specs.Char.Escape.{encode_utf16}
use Rattle.seg_text.specs.declared.boundary.Boundary.{Boundary}
use Rattle.seg_text.specs.Items.{Text}
use Rattle.seg_text.specs.Boundaries.{boundaries_in, Stretch, list_boundaries, Remainder, shift_all}
use Rattle.seg_text.specs.Decoding.{latin1, utf8, utf16}
use Rattle.seg_data.specs.Table.{Table}
use Rattle.seg_pairs.specs.PairTable.{PairTable}
use Rattle.seg_pairs.specs.PairData.{pair_table_of, override_of, owned_pair_table, owned_override}
use Rattle.seg_pairs.specs.Breaks.{table_stretch}
use Rattle.seg_machine.specs.Machine.{Machine, step, symbol_and_script, symbol_count}
use Rattle.seg_machine.specs.Pick.{machine_stretch}
use Rattle.seg_machine.specs.Tailored.{has_rows, machine_of, owned_machine}
use Rattle.seg_clusters.specs.declared.engine.Engine.{Engine}
use Rattle.seg_clusters.specs.declared.engine.Engine.TheVariants.{Classic, Neo}
use Rattle.seg_clusters.specs.declared.engine.OwnedEngine.{OwnedEngine}
use Rattle.seg_clusters.specs.declared.engine.OwnedEngine.TheVariants.{Classic as OwnedClassic, Neo as OwnedNeo}
use Rattle.seg_clusters.specs.declared.engine.BoundariesBy.{BoundariesBy}
use Rattle.seg_clusters.specs.declared.engine.BoundariesBy.TheVariants as engines

pub data Rules : Type 0 where
  -- a pair table and its override, if there is one
  ByTable : PairTable → Option Table → Rules
  -- a state machine
  ByMachine : Machine → Rules

-- the machine of rules, if they are one
abbrev pub machine_in : Rules → Option Machine
machine_in (ByTable t overriding) = None
machine_in (ByMachine m) = Some m

-- the first stretch of some code points: by what the table says of the first, or up to the machine's pick
abbrev pub first_stretch : Rules → List ℕ → Stretch
first_stretch (ByTable t overriding) = table_stretch t overriding
first_stretch (ByMachine m) = machine_stretch m

-- the boundaries of a list of code points
abbrev pub boundaries_by : Rules → List ℕ → List Boundary
boundaries_by rules code_points = list_boundaries (first_stretch rules) code_points

-- the boundaries of a text: those of its code points, at the places of its items
abbrev pub boundaries_of : Rules → Text → List Boundary
boundaries_of rules text = boundaries_in (boundaries_by rules) text

-- What is seen of an engine, and of the boundaries that it gives.

-- the rules of an engine
abbrev pub rules_of : Engine → Rules
rules_of (Classic pairs) = ByTable (pair_table_of pairs) (override_of pairs)
rules_of (Neo machine) = ByMachine (machine_of machine)

abbrev pub owned_rules : OwnedEngine → Rules
owned_rules (OwnedClassic pairs) = ByTable (owned_pair_table pairs) (owned_override pairs)
owned_rules (OwnedNeo machine) = ByMachine (owned_machine machine)

-- the dense rows of a machine were made; a pair table needs none
abbrev pub HasRows : OwnedEngine → Type 0
HasRows (OwnedClassic pairs) = ⊤
HasRows (OwnedNeo machine) = IsTrue (has_rows machine)

-- What either engine has still to give.

abbrev pub remainder_by : {I : Type 0} → BoundariesBy I → Remainder
remainder_by (engines.Classic remainder) = remainder
remainder_by (engines.Neo remainder) = remainder

-- Symbols and code points that reset rules: no scan looks past them.

-- no symbol leads on from the state, and the end of the text doesn't either
abbrev pub IsLastState : Machine → ℕ → Type 0
IsLastState m state = (symbol : ℕ) → symbol < symbol_count m → step m state symbol ≡ None

-- a scan that reads the symbol is over there: from each state it leads to none, or to a last state
abbrev pub IsReset : Machine → ℕ → Type 0
IsReset m symbol = (state : ℕ) → state < length m.states → IfSome (step m state symbol) (IsLastState m)

-- the symbol of the code point resets the machine; of a pair table it is said of none
abbrev pub ResetsAfter : Rules → ℕ → Type 0
ResetsAfter (ByTable t overriding) code_point = ⊥
ResetsAfter (ByMachine m) code_point = IsReset m (symbol_and_script m code_point).0

-- Texts that may be split after some of their units: each part has the boundaries that it has alone.

-- lists may be split after these elements: where the first of two ends with them, the boundaries of both, joined, are those
-- of the first, and then those of the second but for its start, so much later
abbrev pub PartsBehind : (List ℕ → List Boundary) → List ℕ → Type 0
PartsBehind find last =
    (before second : List ℕ) → let first = before ++ last in
    find (first ++ second) ≡ find first ++ shift_all (length first) (drop 1 (find second))

-- so may lists of code points behind this one, and texts behind the units that mean it, in each encoding that has it
pub record PartsTexts (find : List ℕ → List Boundary) (code_point : ℕ) : Type 0 where
  pub lists : PartsBehind find (code_point ∷ [])
  pub in_utf8 : PartsBehind (λ bytes. boundaries_in find (utf8 bytes)) (encode_utf8 code_point)
  pub in_latin1 : code_point < 0x100 → PartsBehind (λ bytes. boundaries_in find (latin1 bytes)) (code_point ∷ [])
  pub in_utf16 : PartsBehind (λ units. boundaries_in find (utf16 units)) (encode_utf16 code_point)
