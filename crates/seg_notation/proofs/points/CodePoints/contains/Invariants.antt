use Rattle.std.proofs.Common.{◌≡◌, take}
use Rattle.seg_notation.specs.Sets.{has}
use Rattle.seg_notation.proofs.points.CodePoints.contains.Given as goal

abbrev pub invariant-loop-change : goal.invariant-loop-change
invariant-loop-change l = l.is_in ≡ has (take l.change-index l.change-items) l.code_point
