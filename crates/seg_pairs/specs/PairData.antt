-- What is seen of a pair table with its override.
use Rattle.std.specs.Prelude.{ℕ, Option, ◌≡◌, ◌≢◌, ◌*◌, ◌<◌, ◌≤◌, ◌⊎◌, List, length, IsSomeAnd, Any}
use Rattle.seg_data.specs.Table.{Table, named_values}
use Rattle.seg_data.specs.declared.provider.DataError.{DataError}
use Rattle.seg_data.specs.declared.provider.DataError.TheVariants.{TableSize, ClassOutOfRange, StateOutOfRange, StartRowKeeps, ComplexItems}
use Rattle.seg_pairs.specs.declared.pair_data.PairData.{PairData}
use Rattle.seg_pairs.specs.declared.pair_data.PairDataBorrowed.{PairDataBorrowed}
use Rattle.seg_pairs.specs.PairTable.{PairTable, class_of, table_in, named_state, Names, Overrides, entry_of}
use Rattle.seg_pairs.specs.declared.provider.pairs.BreakState.{BreakState}
use Rattle.seg_pairs.specs.declared.provider.pairs.BreakState.TheVariants.{Break, NoMatch}

abbrev pub pair_table_of : PairDataBorrowed → PairTable
pair_table_of p = p.table.now

abbrev pub override_of : PairDataBorrowed → Option Table
override_of p = table_in p.overriding

-- the class of a code point by the table and its override
abbrev pub class_by : PairDataBorrowed → ℕ → ℕ
class_by p code_point = class_of (pair_table_of p) (override_of p) code_point

-- the pair table of data that are owned
abbrev pub owned_pair_table : PairData → PairTable
owned_pair_table p = p.table

abbrev pub owned_override : PairData → Option Table
owned_override p = p.overriding

-- The faults of pair tables.

-- the entry names a state that isn't below the number of states
abbrev pub NamesStatePast : ℕ → BreakState → Type 0
NamesStatePast count entry = IsSomeAnd (named_state entry) (λ state. count ≤ state)

-- the faults of the parts: classes, entries, how many classes and states there are, and those of the text's start
-- and end
abbrev pub HasPartsFault : Table → List BreakState → ℕ → ℕ → ℕ → DataError → Type 0
-- there are no classes, or not one entry for each two of them
HasPartsFault classes entries count sot eot TableSize = (count ≡ 0) ⊎ (length entries ≢ count * count)
-- a class that the table names isn't below their number
HasPartsFault classes entries count sot eot ClassOutOfRange = Any (λ class. count ≤ class) (named_values classes)
-- the text's start or end, or a state that an entry names, isn't below their number
HasPartsFault classes entries count sot eot StateOutOfRange =
    ((count ≤ sot) ⊎ (count ≤ eot)) ⊎ Any (NamesStatePast count) entries
HasPartsFault classes entries count sot eot _ = ⊥

-- the faults of a pair table
abbrev pub HasPairFault : PairTable → DataError → Type 0
HasPairFault t fault =
    HasPartsFault t.property_table t.break_state_table t.property_count t.sot_property t.eot_property fault

-- no boundary stands between the text's start and a class
abbrev pub KeepsStart : PairTable → ℕ → Type 0
KeepsStart t class = (entry_of t t.sot_property class ≢ Break) × (entry_of t t.sot_property class ≢ NoMatch)

-- the faults of a pair table with an override, for texts in which no item may be complex
abbrev pub HasPairDataFault : PairTable → Option Table → DataError → Type 0
-- a class that the override names isn't below the number of classes
HasPairDataFault t overriding ClassOutOfRange = (class : ℕ) × Overrides overriding class × (t.property_count ≤ class)
-- no boundary stands between the text's start and a class that the table or the override names
HasPairDataFault t overriding StartRowKeeps = (class : ℕ) × Names t overriding class × KeepsStart t class
-- the table or the override names the class of complex items
HasPairDataFault t overriding ComplexItems = Names t overriding t.complex_property
HasPairDataFault t overriding _ = ⊥

-- a code point below U+0100, which Latin-1 has too, is complex
abbrev pub HasComplexClassBelow0100 : PairTable → Option Table → Type 0
HasComplexClassBelow0100 t overriding =
    (code_point : ℕ) × (code_point < 0x100) × (class_of t overriding code_point ≡ t.complex_property)
