use Rattle.bench.proofs.Rows.{row-begins, row-goes}
use Rattle.bench.specs.LineTables.{line_entry}
use Rattle.bench.proofs.line_tables.push_row.Goals as goal

pub loop-right-init : goal.loop-right-init
loop-right-init c = row-begins line_entry _ _

pub loop-right-preserved : goal.loop-right-preserved
loop-right-preserved c = row-goes line_entry _ _ _ _ _ _ c.loop-right.invariant c.line_entry.ensures c.in_ok-push.ensures.items
