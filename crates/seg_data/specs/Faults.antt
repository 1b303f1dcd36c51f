-- The faults of untrusted data.
use Rattle.std.specs.Prelude.{◌≡◌, ℕ, ◌+◌, ◌<◌, ◌≤◌, ◌⊎◌, Some, List, slice_get, Any}
use Rattle.seg_data.specs.declared.provider.DataError.{DataError}
use Rattle.seg_data.specs.declared.provider.DataError.TheVariants.{Memory, RangeOrder, RangePast10FFFF, TableSize, ClassOutOfRange, StateOutOfRange, StartRowKeeps, ComplexItems, ComplexBelow0100, ComplexClassNamed, StateCount, TransitionSize, TransitionOutOfRange, SymbolOutOfRange, TooManyLookaheads, LookaheadOutOfRange, EndCycle, Stalls, MissingTailoring}

-- the number of a fault: of several, the lowest is answered
abbrev pub number_of : DataError → ℕ
number_of Memory = 1
number_of RangeOrder = 2
number_of RangePast10FFFF = 3
number_of TableSize = 4
number_of ClassOutOfRange = 5
number_of StateOutOfRange = 6
number_of StartRowKeeps = 7
number_of ComplexItems = 8
number_of ComplexBelow0100 = 9
number_of ComplexClassNamed = 10
number_of StateCount = 11
number_of TransitionSize = 12
number_of TransitionOutOfRange = 13
number_of SymbolOutOfRange = 14
number_of TooManyLookaheads = 15
number_of LookaheadOutOfRange = 16
number_of EndCycle = 17
number_of Stalls = 18
number_of MissingTailoring = 19

-- no fault is there
abbrev pub IsFaultless : (DataError → Type 0) → Type 0
IsFaultless Has = (fault : DataError) → Has fault → ⊥

-- this fault is there, and none of a lower number
pub record IsLowestFault (Has : DataError → Type 0) (fault : DataError) : Type 0 where
  pub is_there : Has fault
  pub lowest : (lower : DataError) → number_of lower < number_of fault → Has lower → ⊥

-- some range begins by the end of the range before
abbrev pub HasOverlap : List (ℕ × ℕ × ℕ) → Type 0
HasOverlap ranges =
    (k : ℕ) × (before after : ℕ × ℕ × ℕ) × (slice_get ranges k ≡ Some before)
    × (slice_get ranges (k + 1) ≡ Some after) × (after.0 ≤ before.1)

-- the faults of a list of ranges (first, last, value)
abbrev pub HasRangeFault : List (ℕ × ℕ × ℕ) → DataError → Type 0
-- a first is above its last, or isn't above the last of the range before
HasRangeFault ranges RangeOrder = Any (λ range. range.1 < range.0) ranges ⊎ HasOverlap ranges
-- a last is above U+10FFFF
HasRangeFault ranges RangePast10FFFF = Any (λ range. 0x10FFFF < range.1) ranges
HasRangeFault ranges _ = ⊥
