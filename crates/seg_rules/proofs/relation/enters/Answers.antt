use Rattle.std.proofs.Common.{false, sym, ap, ◌∙◌, None}
use Rattle.std.proofs.lemmas.Bool.{and_from}
use Rattle.seg_machine.specs.declared.provider.Acceptance.TheVariants.{Continue}
use Rattle.seg_machine.specs.Machine.{state_at}
use Rattle.seg_machine.specs.Tailored.{machine_of}
use Rattle.seg_rules.specs.Check.{entered, get}
use Rattle.seg_rules.specs.Given.{tables_of}
use Rattle.seg_rules.specs.Planned.{accept_by, kept_of, plan_of, relation_of}
use Rattle.seg_rules.proofs.Claims.{get-mapped}
use Rattle.seg_rules.proofs.relation.enters.Goals as goal

pub returns : goal.returns
unfolding state_at
returns c = λ rules n yes.
    let m = machine_of c.args.scans.now.machine in
    let t = tables_of rules n c.args.scans.now.certificate in
    let plan = plan_of m n in
    let accepts = get-mapped accept_by (0, 0, false) m.states c.args.state (Continue, None) c.requires in
    let e1 = c.entry-entry.ensures in
    let e2 = c.kept.ensures in
    let e3 = c.stepped-next.ensures in
    let acc = ap accept_by e1 ∙ accepts in
    let there = entered rules t plan (relation_of c.args.scans.now.certificate) c.args.state in
    let here = get (0, 0, false) plan.accepts c.args.state in
    let owed = c.args.owed in
    let is = ap (λ a. there a c.kept.result c.stepped-next.result) acc ∙ ap (λ k. there here k c.stepped-next.result) e2
    ∙ ap (there here (kept_of owed.older owed.newest)) e3 in
    and_from _ _ (sym c.is_followed.ensures ∙ c.if-not-is_followed.false) (sym is ∙ c.may_enter.ensures rules t plan yes)
