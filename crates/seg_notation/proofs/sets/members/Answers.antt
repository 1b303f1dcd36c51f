use Rattle.std.proofs.Common.{◌∙◌, ap}
use Rattle.ucd_table.specs.Rows.{in_ranges}
use Rattle.seg_notation.proofs.sets.members.Goals as goal

pub returns : goal.returns
returns c = λ n k.
    c.in_ok-points.ensures n k ∙ ap (λ v. in_ranges v n) c.as_slice.ensures.value ∙ c.in_ok-ranges.ensures.members n k
