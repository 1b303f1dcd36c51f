use Rattle.std.proofs.Common.{◌≤◌, All, List, [], length, arith, subst, below_more}
use denote.Bor.{Bor}
use Rattle.seg_machine.specs.Tailored.{machine_of}
use Rattle.seg_rules.specs.declared.certificate.Configuration.{Configuration}
use Rattle.seg_rules.specs.Check.{get}
use Rattle.seg_rules.specs.Given.{tables_of}
use Rattle.seg_rules.specs.Planned.{ConfigurationHolds, plan_of, relation_of}
use Rattle.seg_rules.proofs.Claims.{get-mapped}
use Rattle.seg_rules.proofs.relation.groups_hold.Goals as goal

pub loop-state-preserved : goal.loop-state-preserved
loop-state-preserved c = λ rules at q less.
    let n = c.args.scans.now.symbols in
    let certificate = c.args.scans.now.certificate in
    let t = tables_of rules n certificate in
    let plan = plan_of (machine_of c.args.scans.now.machine) n in
    let relation = relation_of certificate in
    let state = c.loop-state.state in
    below_more (λ q. All (ConfigurationHolds rules n t plan relation q) (get [] relation q)) state (λ q less. c.loop-state.invariant rules at q less)
    (subst (All (ConfigurationHolds rules n t plan relation state))
    (get-mapped (λ (group : Bor (List Configuration)). group.now) [] certificate.relation.now state _ c.loop-state-test.true)
    (c.group_holds.ensures rules at c.if-not-group_holds.false))
    q less

pub returns : goal.returns
returns c = λ rules at yes q less.
    let all : length c.args.scans.now.certificate.relation.now ≤ c.loop-state.state = omega arith in
    c.loop-state.invariant rules at q (omega (arith, less, all))
