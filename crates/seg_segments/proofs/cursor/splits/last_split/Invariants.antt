use Rattle.std.proofs.Common.{◌≡◌, ◌<◌, ◌⊎◌, length}
use Rattle.seg_segments.proofs.cursor.splits.last_split.Given as goal

abbrev pub invariant-loop-from : goal.invariant-loop-from
invariant-loop-from g l = (l.from ≡ 0) ⊎ (l.from < length l.bytes)

abbrev pub decreases-loop-from : goal.decreases-loop-from
decreases-loop-from g l = l.from
