use Rattle.std.proofs.Common.{◌∙◌, ap}
use Rattle.seg_notation.specs.Sets.{rises}
use Rattle.seg_notation.proofs.Merging.{rises-none}
use Rattle.seg_notation.proofs.points.CodePoints.none.Goals as goal

pub invariant_of-result : goal.invariant_of-result
invariant_of-result c = record { rising = ap (rises 0) c.new.ensures.items ∙ rises-none 0 }
