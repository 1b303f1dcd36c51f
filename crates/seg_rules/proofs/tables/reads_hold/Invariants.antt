use Rattle.std.proofs.Common.{ℕ, ◌<◌}
use Rattle.seg_rules.specs.Given.{rules_of}
use Rattle.seg_rules.specs.Certified.{ReadHolds}
use Rattle.seg_rules.proofs.tables.reads_hold.Given as goal

abbrev pub invariant-loop-x : goal.invariant-loop-x
invariant-loop-x l = (x : ℕ) → x < l.x → ReadHolds (rules_of l.rules) l.dues l.due x
