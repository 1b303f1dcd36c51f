use Rattle.std.proofs.Common.{◌≡◌, ◌++◌}
use Rattle.bench.specs.Rows.{row}
use Rattle.bench.specs.LineTables.{line_entry}
use Rattle.bench.proofs.line_tables.push_row.Given as goal

abbrev pub invariant-loop-right : goal.invariant-loop-right
invariant-loop-right l = l.entries.items ≡ l.fn.entries.items ++ row line_entry l.left l.right
