use Rattle.std.proofs.Common.{refl}
use Rattle.seg_memo.proofs.Cells.{set-there}
use Rattle.seg_memo.proofs.table.Table.write.Goals as goal

pub returns : goal.returns
returns c =
    set-there c.args.self.now _ c.reach.new.self.cells.items c.args.here c.args.cell c.index-index.result c.requires c.index-index.ensures.number
    c.reach.ensures.states c.reach.ensures.sets c.reach.ensures.first c.reach.ensures.capacity c.reach.ensures.length refl c.reach.ensures.held
