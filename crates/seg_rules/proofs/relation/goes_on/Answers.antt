use Rattle.std.proofs.Common.{◌≡◌, ◌<◌, length, IfSome, true, arith, sym, ◌∙◌, subst}
use Rattle.std.proofs.lemmas.Bool.{cond-false}
use Rattle.seg_machine.specs.Tailored.{machine_of}
use Rattle.seg_rules.specs.Check.{goes_on}
use Rattle.seg_rules.specs.Given.{tables_of}
use Rattle.seg_rules.specs.Planned.{next_number, plan_of, relation_of}
use Rattle.seg_rules.proofs.Related.{goes-decided, goes-from}
use Rattle.seg_rules.proofs.Soundness.{neq-eqb}
use Rattle.seg_rules.proofs.relation.goes_on.Goals as goal

pub returns-then-owed-eq0 : goal.returns-then-owed-eq0
returns-then-owed-eq0 c = λ rules n yes.
    let m = machine_of c.args.scans.now.machine in
    let t = tables_of rules n c.args.scans.now.certificate in
    let relation = relation_of c.args.scans.now.certificate in
    let o = c.args.owed in
    subst (λ doubt. goes_on rules t (plan_of m n) relation c.args.c c.args.before (next_number c.args.next) doubt o.older o.newest ≡ true) (sym c.if-owed-eq0.true)
    (goes-decided rules t (plan_of m n) relation c.args.c c.args.before (next_number c.args.next) o.older o.newest)

pub returns-in-Some : goal.returns-in-Some
returns-in-Some c = λ rules n yes.
    let m = machine_of c.args.scans.now.machine in
    let t = tables_of rules n c.args.scans.now.certificate in
    let relation = relation_of c.args.scans.now.certificate in
    let o = c.args.owed in
    let apart = c.if-owed-eq0.false in
    let small = (subst (λ next. IfSome next (λ state. (state < length m.states) × (state < 255))) c.in-Some.is c.requires).1 in
    subst (λ next. goes_on rules t (plan_of m n) relation c.args.c c.args.before (next_number next) o.doubt o.older o.newest ≡ true) (sym c.in-Some.is)
    (goes-from rules t (plan_of m n) relation c.args.c c.args.before c.in-Some.state o.doubt o.older o.newest (omega (arith, apart))
    ∙ cond-false _ _ _ (neq-eqb c.in-Some.state 255 (λ e. omega (arith, small, e))) ∙ c.enters.ensures rules n yes)

pub returns-in-None : goal.returns-in-None
returns-in-None c = λ rules n yes.
    let m = machine_of c.args.scans.now.machine in
    let t = tables_of rules n c.args.scans.now.certificate in
    let relation = relation_of c.args.scans.now.certificate in
    let o = c.args.owed in
    let apart = c.if-owed-eq0.false in
    subst (λ next. goes_on rules t (plan_of m n) relation c.args.c c.args.before (next_number next) o.doubt o.older o.newest ≡ true) (sym c.in-None.is)
    (goes-from rules t (plan_of m n) relation c.args.c c.args.before 255 o.doubt o.older o.newest (omega (arith, apart)) ∙ sym c.stops.ensures ∙ yes)
