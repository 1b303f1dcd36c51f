use Rattle.std.proofs.Common.{◌≤◌, length, get_or, arith, subst, below_more}
use Rattle.std.proofs.lemmas.List.{get_or_default}
use Rattle.seg_machine.specs.Tailored.{machine_of}
use Rattle.seg_rules.specs.Given.{tables_of}
use Rattle.seg_rules.specs.Planned.{ConfigurationHolds, plan_of, relation_of}
use Rattle.seg_rules.proofs.relation.group_holds.Goals as goal

pub loop-c-preserved : goal.loop-c-preserved
loop-c-preserved c = λ rules at k d less.
    let n = c.args.scans.now.symbols in
    let t = tables_of rules n c.args.scans.now.certificate in
    let plan = plan_of (machine_of c.args.scans.now.machine) n in
    let relation = relation_of c.args.scans.now.certificate in
    let group = c.args.group.now in
    below_more (λ k. ConfigurationHolds rules n t plan relation c.args.state (get_or group k d)) c.loop-c.c-index (λ k less. c.loop-c.invariant rules at k d less)
    (subst (ConfigurationHolds rules n t plan relation c.args.state) (get_or_default group c.loop-c.c-index _ d (omega arith)) (c.is_right.ensures rules at c.if-not-is_right.false))
    k less

pub returns : goal.returns
returns c = λ rules at yes k d less.
    let all : length c.args.group.now ≤ c.loop-c.c-index = omega arith in
    c.loop-c.invariant rules at k d (omega (arith, less, all))
