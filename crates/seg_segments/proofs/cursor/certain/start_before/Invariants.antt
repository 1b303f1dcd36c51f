use Rattle.std.proofs.Common.{◌≡◌, ◌<◌, ◌⊎◌}
use Rattle.seg_segments.proofs.cursor.certain.start_before.Given as goal

abbrev pub invariant-loop-least : goal.invariant-loop-least
invariant-loop-least g l = (l.least ≡ 0) ⊎ (l.least < l.place)

abbrev pub decreases-loop-least : goal.decreases-loop-least
decreases-loop-least g l = l.least
