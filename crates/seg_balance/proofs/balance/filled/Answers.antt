use Rattle.std.proofs.Common.{rules}
use Rattle.seg_balance.proofs.Table.{filled-by, filled-end, limit-by, room-by}
use Rattle.seg_balance.proofs.balance.filled.Goals as goal

pub full_line-count-requires-clause-room : goal.full_line-count-requires-clause-room
full_line-count-requires-clause-room c = room-by _ _ _ c.requires.room

pub lines-preserved : goal.lines-preserved
lines-preserved c =
    filled-by _ _ _ _ _ _ _ _ c.lines-test.true c.lines.invariant (limit-by _ _ _ _ _ c.begins_paragraph.ensures c.of-columns.ensures) c.full_line-count.ensures.full
    c.full_line-count.ensures.shown (search rules)

pub returns : goal.returns
returns c = filled-end _ _ _ _ c.lines.invariant (search rules)
