use Rattle.std.proofs.Common.{◌≡◌}
use Rattle.bench.specs.Rows.{rows}
use Rattle.bench.specs.LineTables.{line_entry}
use Rattle.bench.proofs.line_tables.line_rows.Given as goal

abbrev pub invariant-loop-left : goal.invariant-loop-left
invariant-loop-left l = l.entries.items ≡ rows line_entry 57 l.left
