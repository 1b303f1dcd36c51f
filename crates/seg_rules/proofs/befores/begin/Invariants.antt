use Rattle.std.proofs.Common.{drop}
use Rattle.seg_rules.proofs.Moves.{Begin}
use Rattle.seg_rules.proofs.befores.begin.Given as goal

abbrev pub invariant-loop-i : goal.invariant-loop-i
invariant-loop-i l = Begin (drop l.i l.rows) (drop l.i l.to) → Begin l.rows l.to
