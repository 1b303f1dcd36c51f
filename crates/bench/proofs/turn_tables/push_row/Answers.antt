use Rattle.bench.proofs.Rows.{row-begins, row-goes}
use Rattle.bench.specs.TurnTables.{turn_entry}
use Rattle.bench.proofs.turn_tables.push_row.Goals as goal

pub loop-right-init : goal.loop-right-init
loop-right-init c = row-begins turn_entry _ _

pub loop-right-preserved : goal.loop-right-preserved
loop-right-preserved c = row-goes turn_entry _ _ _ _ _ _ c.loop-right.invariant c.turn_entry.ensures c.in_ok-push.ensures.items
