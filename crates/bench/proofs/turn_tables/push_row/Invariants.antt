use Rattle.std.proofs.Common.{◌≡◌, ◌++◌}
use Rattle.bench.specs.Rows.{row}
use Rattle.bench.specs.TurnTables.{turn_entry}
use Rattle.bench.proofs.turn_tables.push_row.Given as goal

abbrev pub invariant-loop-right : goal.invariant-loop-right
invariant-loop-right l = l.entries.items ≡ l.fn.entries.items ++ row turn_entry l.left l.right
