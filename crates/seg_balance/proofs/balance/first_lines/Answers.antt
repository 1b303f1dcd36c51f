use Rattle.std.proofs.Common.{rules, refl}
use Rattle.seg_balance.proofs.Table.{at-zero, limit-by, room-by, step-by, table-firsts, table-start}
use Rattle.seg_balance.proofs.balance.first_lines.Goals as goal

pub starts-init : goal.starts-init
starts-init c = table-start _ _ _ _ (search rules) (search rules) (c.in_ok-resize.ensures.by_index.1 _ _ refl (search rules) (search rules))

pub starts-preserved : goal.starts-preserved
starts-preserved c =
    step-by _ _ _ _ _ _ _ _ _ c.starts.invariant (search rules) (limit-by _ _ _ _ _ c.begins_paragraph.ensures c.of-columns.ensures) (search rules) (search rules)
    c.first_line-least.ensures.least

pub returns-clause-best : goal.returns-clause-best
returns-clause-best c = table-firsts _ _ _ _ (at-zero _ _ _ _ _ (search rules) c.starts.invariant)

pub first_line-least-requires-clause-room : goal.first_line-least-requires-clause-room
first_line-least-requires-clause-room c = room-by _ _ _ c.requires.room
