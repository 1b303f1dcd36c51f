use Rattle.std.proofs.Common.{arith, refl}
use Rattle.seg_memo.proofs.Cells.{cells-moved, left-from, none-after}
use Rattle.seg_memo.proofs.table.Table.leave.Goals as goal

pub returns-then-before-len : goal.returns-then-before-len
returns-then-before-len c =
    left-from c.args.self.now _ c.index-before.result c.args.start refl refl c.index-before.ensures.number refl (omega (arith, c.truncate.ensures.capacity))
    (λ i. none-after _ c.args.self.now.cells.items c.index-before.result i c.truncate.ensures.items (omega (arith, c.if-before-len.true, c.len-len.ensures)))

pub returns : goal.returns
returns c =
    left-from c.args.self.now _ c.index-before.result c.args.start refl refl c.index-before.ensures.number refl (omega (arith, c.truncate-2.ensures.capacity, c.copy_within.ensures.capacity))
    (cells-moved c.args.self.now.cells.items c.copy_within.new.self.items _ c.index-before.result _ (omega (arith, c.if-before-len.false, c.len-len.ensures)) (omega (arith, c.copy_within.ensures.len)) c.copy_within.ensures.by_index.0 c.truncate-2.ensures.items)
