use Rattle.std.proofs.Common.{ℕ, ◌<◌}
use Rattle.seg_rules.specs.Given.{rules_of}
use Rattle.seg_rules.specs.Certified.{MoveHolds}
use Rattle.seg_rules.proofs.tables.moves_hold.Given as goal

abbrev pub invariant-loop-j : goal.invariant-loop-j
invariant-loop-j l = (j : ℕ) → j < l.j → MoveHolds (rules_of l.rules) l.befores l.from j
