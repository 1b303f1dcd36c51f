-- Lines that are filled as far as they go, and lines whose right edge is the least ragged.
use Rattle.std.specs.Prelude.{ℕ, ◌+◌, ◌-◌, ◌*◌, nat_lt, Bool, true, false, List, [], ◌∷◌, drop, take, length, if◌then◌else◌, ◌≡◌, ◌<◌, ◌≤◌}
use Rattle.std.specs.List.{list_all}
use Rattle.seg_balance.specs.declared.balance.Limits.{Limits}
use Rattle.seg_balance.specs.declared.balance.MeasuredLine.{MeasuredLine}
use Rattle.seg_balance.specs.declared.balance.MeasuredSegment.{MeasuredSegment}

-- ---- lines

-- the columns of a segment where others follow in its line
abbrev pub inner_columns : MeasuredSegment → ℕ
inner_columns segment = segment.columns + segment.trailing_columns

-- and of all of these
unfoldable pub total_columns : List MeasuredSegment → ℕ
total_columns [] = 0
total_columns (segment ∷ segments) = inner_columns segment + total_columns segments

-- the columns of a line of these segments: white space at its end takes none
unfoldable pub line_columns : List MeasuredSegment → ℕ
line_columns [] = 0
line_columns (segment ∷ segments) =
    if list_all (λ (later : MeasuredSegment). later.is_blank) segments then segment.columns else inner_columns segment + line_columns segments

-- whether the last of these segments is of a kind
unfoldable pub ends : (MeasuredSegment → Bool) → List MeasuredSegment → Bool
ends is [] = false
ends is (segment ∷ []) = is segment
ends is (segment ∷ next ∷ segments) = ends is (next ∷ segments)

-- whether a line must end after them
abbrev pub ends_mandatory : List MeasuredSegment → Bool
ends_mandatory segments = ends (λ segment. segment.is_mandatory) segments

-- whether a line that ends after them shows a hyphen
abbrev pub ends_hyphenated : List MeasuredSegment → Bool
ends_hyphenated segments = ends (λ segment. segment.is_hyphenated) segments

-- the columns of a line that shows a hyphen behind so many, or none
abbrev pub with_hyphen : ℕ → Bool → ℕ
with_hyphen columns is_hyphenated = if is_hyphenated then columns + 1 else columns

-- the columns of a line of these segments as it is shown: with its hyphen
abbrev pub shown_columns : List MeasuredSegment → ℕ
shown_columns segments = with_hyphen (line_columns segments) (ends_hyphenated segments)

-- so many of these segments may be their first line, of so many columns
pub record IsFirstLine (columns : ℕ) (segments : List MeasuredSegment) (count : ℕ) : Type 0 where
  pub some : 0 < count
  pub within : count ≤ length segments
  -- no line goes on where it must end
  pub unbroken : (fewer : ℕ) → fewer < count → ends_mandatory (take fewer segments) ≡ false
  -- several have at most these columns, but a single one may have more
  pub fits : 1 < count → shown_columns (take count segments) ≤ columns

-- the columns that a line may have, which is the first of a paragraph or not
abbrev pub limit_of : Limits → Bool → ℕ
limit_of limits is_first = if is_first then limits.first else limits.others

-- how many segments each line has, from a paragraph's first line on or from a later one: the lines take them all, in order
unfoldable pub AreLines : Limits → Bool → List MeasuredSegment → List ℕ → Type 0
AreLines limits is_first segments [] = segments ≡ []
AreLines limits is_first segments (count ∷ counts) =
    IsFirstLine (limit_of limits is_first) segments count × AreLines limits (ends_mandatory (take count segments)) (drop count segments) counts

-- lines that begin after so many segments, with so many of these segments each
unfoldable pub lines_after : ℕ → List MeasuredSegment → List ℕ → List MeasuredLine
lines_after start segments [] = []
lines_after start segments (count ∷ counts) =
    record { end = start + count; columns = shown_columns (take count segments) } ∷ lines_after (start + count) (drop count segments) counts

-- ---- lines that are filled

-- so many of these segments are a first line, and no more may be
pub record IsFullLine (columns : ℕ) (segments : List MeasuredSegment) (count : ℕ) : Type 0 where
  pub is : IsFirstLine columns segments count
  pub longest : (other : ℕ) → IsFirstLine columns segments other → other ≤ count

-- each line has as many segments as it may
unfoldable pub AreFilled : Limits → Bool → List MeasuredSegment → List ℕ → Type 0
AreFilled limits is_first segments [] = segments ≡ []
AreFilled limits is_first segments (count ∷ counts) =
    IsFullLine (limit_of limits is_first) segments count × AreFilled limits (ends_mandatory (take count segments)) (drop count segments) counts

-- these are the lines filled as far as they go
abbrev pub AreFilledLines : Limits → List MeasuredSegment → List MeasuredLine → Type 0
AreFilledLines limits segments lines = (counts : List ℕ) × (AreFilled limits true segments counts × (lines ≡ lines_after 0 segments counts))

-- ---- which lines are the best

-- the square of the columns that a line leaves free: 0 where it is wider
abbrev pub square_free : ℕ → ℕ → ℕ
square_free columns width = (columns - width) * (columns - width)

-- what it costs that so many of these segments are their first line: nothing where a paragraph ends with it
abbrev pub line_cost : ℕ → List MeasuredSegment → ℕ → ℕ
line_cost columns segments count =
    if nat_lt count (length segments) then
    (if ends_mandatory (take count segments) then 0 else square_free columns (shown_columns (take count segments)))
    else 0

-- what all lines cost
unfoldable pub cost : Limits → Bool → List MeasuredSegment → List ℕ → ℕ
cost limits is_first segments [] = 0
cost limits is_first segments (count ∷ counts) =
    line_cost (limit_of limits is_first) segments count + cost limits (ends_mandatory (take count segments)) (drop count segments) counts

-- where the first lines of two lists differ, that of the first list has more segments
unfoldable pub IsFilledFirst : List ℕ → List ℕ → Type 0
IsFilledFirst [] others = Unit {0}
IsFilledFirst (count ∷ counts) [] = Unit {0}
IsFilledFirst (count ∷ counts) (other ∷ others) = (other ≤ count) × (count ≡ other → IsFilledFirst counts others)

-- lines that cost no more than any other lines of these segments, and of those that cost the same the ones that are filled first
pub record AreBalanced (limits : Limits) (is_first : Bool) (segments : List MeasuredSegment) (counts : List ℕ) : Type 0 where
  pub are : AreLines limits is_first segments counts
  pub least : (others : List ℕ) → AreLines limits is_first segments others → cost limits is_first segments counts ≤ cost limits is_first segments others
  pub filled : (others : List ℕ) → AreLines limits is_first segments others → cost limits is_first segments others ≡ cost limits is_first segments counts
      → IsFilledFirst counts others

-- these are the balanced lines
abbrev pub AreBalancedLines : Limits → List MeasuredSegment → List MeasuredLine → Type 0
AreBalancedLines limits segments lines = (counts : List ℕ) × (AreBalanced limits true segments counts × (lines ≡ lines_after 0 segments counts))
