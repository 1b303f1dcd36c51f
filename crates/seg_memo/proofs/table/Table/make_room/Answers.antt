use Rattle.seg_memo.proofs.Cells.{left-more, left-on}
use Rattle.seg_memo.proofs.table.Table.make_room.Goals as goal

pub returns-clause-left : goal.returns-clause-left
returns-clause-left c =
    left-on c.leave.ensures
    (left-more c.leave.new.self c.reach.new.self c.args.from c.reach.ensures.states c.reach.ensures.sets c.reach.ensures.first c.reach.ensures.capacity c.reach.ensures.held)
