use Rattle.std.proofs.Common.{◌≤◌, length}
use Rattle.seg_segments.proofs.cursor.certain.item_start.Given as goal

abbrev pub invariant-loop-start : goal.invariant-loop-start
invariant-loop-start g l = l.start ≤ length (g.T.Units.units l.text)

abbrev pub decreases-loop-start : goal.decreases-loop-start
decreases-loop-start g l = l.start
