use Rattle.std.proofs.Common.{ℕ, ◌-◌, ◌<◌, ◌≤◌, length, get_or}
use Rattle.seg_data.proofs.provider.table.runs.first_reaching.Given as goal

-- the ranges before `low` end before the code point, and the one at `high` doesn't
abbrev pub invariant-loop-low : goal.invariant-loop-low
invariant-loop-low l = record {
  order : l.low ≤ l.high;
  within : l.high ≤ length l.ranges;
  before : (k : ℕ) → k < l.low → (get_or l.ranges k (0, 0, 0)).1 < l.code_point;
  reaches : l.high < length l.ranges → l.code_point ≤ (get_or l.ranges l.high (0, 0, 0)).1;
}

abbrev pub decreases-loop-low : goal.decreases-loop-low
decreases-loop-low l = l.high - l.low
