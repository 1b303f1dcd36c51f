-- How the balanced lines are found: what costs the least from each segment on.
use Rattle.std.specs.Prelude.{ℕ, ◌+◌, ◌-◌, ◌*◌, ◌&&◌, not, nat_le, nat_lt, zero, suc, Bool, true, List, ◌∷◌, drop, take, length, get_or, ◌≡◌, ◌<◌, ◌≤◌}
use Rattle.seg_balance.specs.declared.balance.Limits.{Limits}
use Rattle.seg_balance.specs.declared.balance.MeasuredSegment.{MeasuredSegment}
use Rattle.seg_balance.specs.Balanced.{AreBalanced, IsFirstLine, cost, ends_mandatory, line_cost}

-- the cost of lines that begin with so many segments, where the rest costs what stands at that place
abbrev pub total_with : ℕ → List MeasuredSegment → List ℕ → ℕ → ℕ
total_with columns segments costs count = line_cost columns segments count + get_or costs count 0

-- the balanced lines of segments cost this, and the first has so many
pub record HasBest (limits : Limits) (is_first : Bool) (segments : List MeasuredSegment) (least first : ℕ) : Type 0 where
  pub counts : List ℕ
  pub is : AreBalanced limits is_first segments counts
  pub costs : cost limits is_first segments counts ≡ least
  pub begins : (count : ℕ) (later : List ℕ) → counts ≡ count ∷ later → count ≡ first

-- a line of so many segments, which has this width, may have one more
abbrev pub goes_on : ℕ → List MeasuredSegment → ℕ → ℕ → Bool
goes_on columns segments count width = (nat_lt count (length segments) && nat_le width columns) && not (ends_mandatory (take count segments))

-- of all first lines, with the costs of what is left, this costs the least, and of those it is the longest
pub record IsLeast (columns : ℕ) (segments : List MeasuredSegment) (costs : List ℕ) (least first : ℕ) : Type 0 where
  pub is : IsFirstLine columns segments first
  pub sum : total_with columns segments costs first ≡ least
  pub below : (other : ℕ) → IsFirstLine columns segments other → least ≤ total_with columns segments costs other
  pub longest : (other : ℕ) → IsFirstLine columns segments other → total_with columns segments costs other ≡ least → other ≤ first

-- the most that so many segments may cost
abbrev pub bound : ℕ → ℕ
bound count = 18446744073709551616 * count

-- the costs of what is left are small
abbrev pub AreSmall : List MeasuredSegment → List ℕ → Type 0
AreSmall segments costs = (count : ℕ) → 0 < count → count ≤ length segments → get_or costs count 0 ≤ bound (length segments - count)

-- a line that begins after so many segments is the first of its paragraph: the very first, and each behind one that must end
abbrev pub begins_paragraph : List MeasuredSegment → ℕ → Bool
begins_paragraph segments zero = true
begins_paragraph segments (suc start) = ends_mandatory (take (suc start) segments)

-- of what begins at each segment, its best first line
abbrev pub AreFirsts : Limits → List MeasuredSegment → List ℕ → Type 0
AreFirsts limits segments firsts = (start : ℕ) → start ≤ length segments
    → (least : ℕ) × HasBest limits (begins_paragraph segments start) (drop start segments) least (get_or firsts start 0)
