use Rattle.std.proofs.Common.{arith}
use Rattle.seg_memo.proofs.Cells.{cell-past, cell-read}
use Rattle.seg_memo.proofs.table.Table.cell.Goals as goal

pub returns-then-index-len : goal.returns-then-index-len
returns-then-index-len c = cell-read c.args.self.now c.args.here c.index-index.result _ c.index-index.ensures.number (omega (arith, c.if-index-len.true, c.len.ensures)) c.index.ensures

pub returns-else-index-len : goal.returns-else-index-len
returns-else-index-len c = cell-past c.args.self.now c.args.here c.index-index.result c.index-index.ensures.number (omega (arith, c.if-index-len.false, c.len.ensures))
