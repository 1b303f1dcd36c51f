-- Tables of values by ranges of code points.
use Rattle.std.specs.Prelude.{ℕ, ◌&&◌, nat_le, Bool, List, ◌∷◌, map, find, ◌≡◌, ◌+◌, ◌*◌, ◌<◌, ◌≤◌, Option, length, slice_index, slice_index_or, IfSome}
use Rattle.std.specs.Option.{option_map_or}

-- each range is (first, last, value), with both ends in it
pub record Table : Type 0 where
  pub ranges : List (ℕ × ℕ × ℕ)
  pub default : ℕ

-- the table of these ranges and this default
abbrev pub table : List (ℕ × ℕ × ℕ) → ℕ → Table
table ranges default = record { ranges = ranges; default = default }

-- does the range hold the code point
abbrev pub holds : ℕ → ℕ × ℕ × ℕ → Bool
holds code_point range = nat_le range.0 code_point && nat_le code_point range.1

-- the value of the range that holds the code point, or else the default
unfoldable pub value_of : Table → ℕ → ℕ
value_of table code_point =
    option_map_or (λ range. range.2) (find (holds code_point) table.ranges) table.default

-- the values that a table names: its default, also where no code point has it, and those of its ranges
abbrev pub named_values : Table → List ℕ
named_values table = table.default ∷ map (λ range. range.2) table.ranges

-- The values of a table, page by page. A page is 128 code points, and some pages share a block of values.

-- from a code point up to another, all have this value
abbrev pub IsRun : Table → ℕ → ℕ → ℕ → Type 0
IsRun t first value last = (code_point : ℕ) → first ≤ code_point → code_point ≤ last → value_of t code_point ≡ value

-- the ranges before this place end before the code point, and the one there doesn't
pub record IsFirstReaching (ranges : List (ℕ × ℕ × ℕ)) (code_point place : ℕ) : Type 0 where
  pub within : place ≤ length ranges
  pub before : (k : ℕ) → k < place → (slice_index_or ranges k (0, 0, 0)).1 < code_point
  pub reaches : place < length ranges → code_point ≤ (slice_index_or ranges place (0, 0, 0)).1

-- the values of ASCII stand each at its code point
abbrev pub AreAscii : Table → List ℕ → Type 0
AreAscii t values = (code_point : ℕ) → code_point < 128 → slice_index values code_point ≡ value_of t code_point

-- the values of the page stand in this block
abbrev pub IsPageAt : Table → List ℕ → ℕ → ℕ → Type 0
IsPageAt t values page block =
    (offset : ℕ) → offset < 128 → (block * 128 + offset < length values)
    × (slice_index values (block * 128 + offset) ≡ value_of t (page * 128 + offset))

-- the values of each page stand in its block
abbrev pub ArePages : Table → List ℕ → List ℕ → Type 0
ArePages t pages values = (page : ℕ) → page < length pages → IsPageAt t values page (slice_index pages page)

-- the values are whole blocks, no more than so many
abbrev pub AreBlocks : ℕ → List ℕ → Type 0
AreBlocks most values = (count : ℕ) × (length values ≡ count * 128) × (count ≤ most)

-- the block of this number, if there is one, has this value alone
abbrev pub IsPlain : List ℕ → Option (ℕ × ℕ) → Type 0
IsPlain values plain =
    IfSome plain (λ p. (offset : ℕ) → offset < 128 → (p.1 * 128 + offset < length values)
    × (slice_index values (p.1 * 128 + offset) ≡ p.0))

-- values have come after those that were there
pub record HasGrown (old new : List ℕ) : Type 0 where
  pub more : length old ≤ length new
  pub same : (k : ℕ) → k < length old → slice_index new k ≡ slice_index old k

-- so many values from a code point on have come after those that were there
pub record IsFilled (t : Table) (start : ℕ) (old new : List ℕ) (count : ℕ) : Type 0 where
  pub total : length new ≡ length old + count
  pub filled : (offset : ℕ) → offset < count → slice_index new (length old + offset) ≡ value_of t (start + offset)
