use Rattle.std.proofs.Common.{◌≡◌}
use Rattle.bench.specs.Rows.{rows}
use Rattle.bench.specs.TurnTables.{turn_entry}
use Rattle.bench.proofs.turn_tables.turn_rows.Given as goal

abbrev pub invariant-loop-left : goal.invariant-loop-left
invariant-loop-left l = l.entries.items ≡ rows turn_entry 71 l.left
