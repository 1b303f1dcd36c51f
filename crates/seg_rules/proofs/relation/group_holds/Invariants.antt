use Rattle.std.proofs.Common.{◌≡◌, ◌<◌, ℕ, get_or}
use Rattle.seg_machine.specs.Tailored.{machine_of}
use Rattle.seg_rules.specs.declared.certificate.Configuration.{Configuration}
use Rattle.seg_rules.specs.RowRules.{RowRules}
use Rattle.seg_rules.specs.Given.{tables_of}
use Rattle.seg_rules.specs.Planned.{ConfigurationHolds, plan_of, relation_of}
use Rattle.seg_rules.proofs.relation.group_holds.Given as goal

abbrev pub invariant-loop-c : goal.invariant-loop-c
invariant-loop-c l = (rules : RowRules) → rules.at_end ≡ l.scans.at_end → (k : ℕ) (d : Configuration) → k < l.c-index
    → ConfigurationHolds rules l.scans.symbols (tables_of rules l.scans.symbols l.scans.certificate) (plan_of (machine_of l.scans.machine) l.scans.symbols)
    (relation_of l.scans.certificate) l.state (get_or l.group k d)
