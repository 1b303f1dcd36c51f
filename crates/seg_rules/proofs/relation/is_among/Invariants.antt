use Rattle.std.proofs.Common.{◌≤◌, ◌-◌, length}
use Rattle.seg_rules.proofs.relation.is_among.Given as goal

abbrev pub invariant-loop-low : goal.invariant-loop-low
invariant-loop-low l = l.high ≤ length l.group

abbrev pub decreases-loop-low : goal.decreases-loop-low
decreases-loop-low l = l.high - l.low
