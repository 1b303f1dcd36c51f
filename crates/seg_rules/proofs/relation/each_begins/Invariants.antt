use Rattle.std.proofs.Common.{◌<◌, ℕ}
use Rattle.seg_rules.specs.Planned.{Begins}
use Rattle.seg_rules.proofs.relation.each_begins.Given as goal

abbrev pub invariant-loop-i : goal.invariant-loop-i
invariant-loop-i l = (i : ℕ) → i < l.i → Begins l.certificate i
