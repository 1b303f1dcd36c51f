use Rattle.std.proofs.Common.{ℕ, ◌-◌, ◌<◌, ◌≤◌, length, get_or}
use Rattle.seg_data.proofs.provider.dictionary.edges.first_from.Given as goal

-- the edges before `low` have lower code points, and those from `high` on don't
abbrev pub invariant-loop-low : goal.invariant-loop-low
invariant-loop-low l = record {
  order : l.low ≤ l.high;
  within : l.high ≤ length l.edges;
  before : (k : ℕ) → k < l.low → (get_or l.edges k (0, 0)).0 < l.code_point;
  after : (k : ℕ) → l.high ≤ k → k < length l.edges → l.code_point ≤ (get_or l.edges k (0, 0)).0;
}

abbrev pub decreases-loop-low : goal.decreases-loop-low
decreases-loop-low l = l.high - l.low
