use Rattle.std.proofs.Common.{suc, ◌<◌, arith, sym, ap, ◌∙◌}
use Rattle.seg_machine.specs.Tailored.{machine_of}
use Rattle.seg_rules.specs.declared.relation.Owed.{Owed}
use Rattle.seg_rules.specs.Check.{ends_well}
use Rattle.seg_rules.specs.Given.{tables_of}
use Rattle.seg_rules.specs.Planned.{plan_of, relation_of}
use Rattle.seg_rules.proofs.Related.{or-right-true}
use Rattle.seg_rules.proofs.relation.ends_right.Goals as goal

pub returns : goal.returns
returns c = λ rules n at yes.
    let t = tables_of rules n c.args.scans.now.certificate in
    let plan = plan_of (machine_of c.args.scans.now.machine) n in
    let relation = relation_of c.args.scans.now.certificate in
    let some : 0 < suc n = omega arith in
    or-right-true _ _
    (sym (ap (λ (owed : Owed). ends_well rules t plan relation c.args.state c.args.c owed.doubt owed.older) (c.owed_after-owed.ensures rules n some))
    ∙ c.ends_well.ensures rules n t relation at yes)
