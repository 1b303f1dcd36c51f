use Rattle.std.proofs.Common.{length}
use Rattle.seg_notation.proofs.points.CodePoints.+of_ranges.Given as goal

abbrev pub decreases-of_ranges : goal.decreases-of_ranges
decreases-of_ranges l = length l.ranges.now
