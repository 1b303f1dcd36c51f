use Rattle.std.proofs.Common.{◌≤◌, length}
use Rattle.seg_notation.proofs.rows.items_of.Given as goal

abbrev pub invariant-loop-count : goal.invariant-loop-count
invariant-loop-count l = length l.items.items ≤ l.count
