use Rattle.seg_wrap.proofs.Cells.{standing-cell, trailing-cell}
use Rattle.seg_wrap.proofs.wrap.extent.Extent.of_cell.Goals as goal

pub returns-then-is_trailing : goal.returns-then-is_trailing
returns-then-is_trailing c = trailing-cell _ _ c.if-is_trailing.true

pub returns-else-is_trailing : goal.returns-else-is_trailing
returns-else-is_trailing c = standing-cell _ _ c.if-is_trailing.false
