use Rattle.std.proofs.Common.{◌≡◌, ◌<◌, ℕ, [], All}
use Rattle.seg_machine.specs.Tailored.{machine_of}
use Rattle.seg_rules.specs.RowRules.{RowRules}
use Rattle.seg_rules.specs.Check.{get}
use Rattle.seg_rules.specs.Given.{tables_of}
use Rattle.seg_rules.specs.Planned.{ConfigurationHolds, plan_of, relation_of}
use Rattle.seg_rules.proofs.relation.groups_hold.Given as goal

abbrev pub invariant-loop-state : goal.invariant-loop-state
invariant-loop-state l = (rules : RowRules) → rules.at_end ≡ l.scans.at_end → (q : ℕ) → q < l.state
    → All (ConfigurationHolds rules l.scans.symbols (tables_of rules l.scans.symbols l.scans.certificate) (plan_of (machine_of l.scans.machine) l.scans.symbols)
    (relation_of l.scans.certificate) q) (get [] (relation_of l.scans.certificate) q)
