use Rattle.std.proofs.Common.{◌≡◌, ◌<◌, ℕ, true}
use Rattle.seg_machine.specs.Tailored.{machine_of}
use Rattle.seg_rules.specs.RowRules.{RowRules}
use Rattle.seg_rules.specs.Given.{tables_of}
use Rattle.seg_rules.specs.Planned.{goes_at, plan_of, relation_of}
use Rattle.seg_rules.proofs.relation.each_goes.Given as goal

abbrev pub invariant-loop-j : goal.invariant-loop-j
invariant-loop-j l = (rules : RowRules) (j : ℕ) → j < l.j
    → goes_at rules (tables_of rules l.scans.symbols l.scans.certificate) (plan_of (machine_of l.scans.machine) l.scans.symbols) (relation_of l.scans.certificate) l.state l.c j ≡ true
