-- What a pair table says of two classes, and the bytes that mean it: 0 to 119 for Index, 120 to 252 for
-- Intermediate, 253 Break, 254 NoMatch, 255 Keep.
use Rattle.std.specs.Prelude.{ℕ, ◌+◌, ◌-◌, ◌<◌, ◌==◌, nat_lt, Bool, true, false, if◌then◌else◌, Option, Some, None, ◌≡◌, ◌≢◌, ◌*◌, ◌⊎◌, List, length, slice_index_or, Contains}
use Rattle.std.specs.Borrow.{Bor}
use Rattle.std.specs.Option.{option_map}
use Rattle.seg_data.specs.Table.{Table, value_of, named_values}
use Rattle.seg_pairs.specs.declared.provider.pairs.BreakState.{BreakState}
use Rattle.seg_pairs.specs.declared.provider.pairs.BreakState.TheVariants.{Break, Keep, NoMatch, Intermediate, Index}

-- the state that it names, if it names one
abbrev pub named_state : BreakState → Option ℕ
named_state (Index state) = Some state
named_state (Intermediate state) = Some state
named_state Break = None
named_state Keep = None
named_state NoMatch = None

abbrev pub is_intermediate : BreakState → Bool
is_intermediate (Intermediate state) = true
is_intermediate (Index state) = false
is_intermediate Break = false
is_intermediate Keep = false
is_intermediate NoMatch = false

-- what a byte means
abbrev pub break_state_of : ℕ → BreakState
break_state_of byte =
    if byte == 253 then Break
    else if byte == 254 then NoMatch
    else if byte == 255 then Keep
    else if nat_lt byte 120 then Index byte
    else Intermediate (byte - 120)

-- the byte that means it
abbrev pub break_byte_of : BreakState → ℕ
break_byte_of (Index state) = state
break_byte_of (Intermediate state) = 120 + state
break_byte_of Break = 253
break_byte_of NoMatch = 254
break_byte_of Keep = 255

-- a byte means it
abbrev pub HasBreakByte : BreakState → Type 0
HasBreakByte (Index state) = state < 120
HasBreakByte (Intermediate state) = state < 133
HasBreakByte Break = Unit {0}
HasBreakByte NoMatch = Unit {0}
HasBreakByte Keep = Unit {0}

-- Pair tables over the classes of code points.

-- classes and states are the numbers below `property_count`; those above `last_codepoint_property` are composites
pub record PairTable : Type 0 where
  pub property_table : Table
  pub break_state_table : List BreakState
  pub rule_status_table : List ℕ
  pub property_count : ℕ
  pub last_codepoint_property : ℕ
  pub sot_property : ℕ
  pub eot_property : ℕ
  pub complex_property : ℕ

-- the pair table of these parts
abbrev pub pair_table : Table → List BreakState → List ℕ → ℕ → ℕ → ℕ → ℕ → ℕ → PairTable
pair_table classes entries statuses count last sot eot complex = record {
  property_table = classes;
  break_state_table = entries;
  rule_status_table = statuses;
  property_count = count;
  last_codepoint_property = last;
  sot_property = sot;
  eot_property = eot;
  complex_property = complex;
}

-- what stands between a class or state and the class after it
unfoldable pub entry_of : PairTable → ℕ → ℕ → BreakState
entry_of t left right = slice_index_or t.break_state_table (left * t.property_count + right) NoMatch

-- the class of a code point: that of the override, where there is one and it isn't 0, or else that of the table
unfoldable pub class_of : PairTable → Option Table → ℕ → ℕ
class_of t None code_point = value_of t.property_table code_point
class_of t (Some overriding) code_point =
    let class = value_of overriding code_point in
    if class == 0 then value_of t.property_table code_point else class

-- the override names the class; its value 0 is none
abbrev pub Overrides : Option Table → ℕ → Type 0
Overrides None class = ⊥
Overrides (Some overriding) class = (class ≢ 0) × Contains (named_values overriding) class

-- the table or its override names the class
abbrev pub Names : PairTable → Option Table → ℕ → Type 0
Names t overriding class = Contains (named_values t.property_table) class ⊎ Overrides overriding class

-- what a checked pair table keeps
pub record IsPairTable (t : PairTable) : Type 0 where
  pub some_class : 0 < t.property_count
  pub square : length t.break_state_table ≡ t.property_count * t.property_count
  pub sot : t.sot_property < t.property_count
  pub eot : t.eot_property < t.property_count
  -- each class is below their number
  pub classes : (class : ℕ) → Contains (named_values t.property_table) class → class < t.property_count
  -- and each state that an entry names
  pub states : (left right state : ℕ) → named_state (entry_of t left right) ≡ Some state → state < t.property_count

-- Overrides that may not be there.

-- the override's table, where there is one
abbrev pub table_in : Option (Bor Table) → Option Table
table_in overriding = option_map (λ borrowed. borrowed.now) overriding
