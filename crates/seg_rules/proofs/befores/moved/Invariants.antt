use Rattle.std.proofs.Common.{drop}
use Rattle.seg_rules.proofs.Moves.{Moves}
use Rattle.seg_rules.proofs.befores.moved.Given as goal

abbrev pub invariant-loop-i : goal.invariant-loop-i
invariant-loop-i l = Moves (drop l.i l.rows) (drop l.i l.from) l.symbol (drop l.i l.to) → Moves l.rows l.from l.symbol l.to
