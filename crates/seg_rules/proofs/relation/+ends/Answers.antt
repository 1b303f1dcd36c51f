use Rattle.std.proofs.Common.{◌-◌, ◌==◌, arith, sym, ap, ◌∙◌, eq-eqb}
use Rattle.std.proofs.lemmas.Bool.{and_from, cond-true, cond-false}
use Rattle.seg_machine.specs.Tailored.{machine_of}
use Rattle.seg_rules.specs.Check.{ends}
use Rattle.seg_rules.specs.Planned.{accept_by, plan_of}
use Rattle.seg_rules.specs.declared.relation.Found.{Found}
use Rattle.seg_rules.proofs.Planned.{after_end, ends-next, ends-stop}
use Rattle.seg_rules.proofs.Soundness.{neq-eqb}
use Rattle.seg_rules.proofs.relation.+ends.Goals as goal

pub returns-then-found-wanted : goal.returns-then-found-wanted
returns-then-found-wanted t c = λ n yes.
    let m = machine_of c.args.machine in
    let f = c.args.found in
    let w = c.args.wanted in
    let apart = c.if-fuel-eq0.false in
    ends-stop m n c.args.fuel c.args.state f.last f.status f.named w.place w.status (omega (arith, apart)) c.requires.state
    (sym c.next_state.ensures.value ∙ c.in_default.is)
    ∙ and_from (f.last == w.place) (f.status == w.status) (eq-eqb f.last w.place c.if-found-wanted.true) yes

pub returns-in-Continue : goal.returns-in-Continue
returns-in-Continue t c = λ n yes.
    let m = machine_of c.args.machine in
    let f = c.args.found in
    let w = c.args.wanted in
    let apart = c.if-fuel-eq0.false in
    let leads = sym c.next_state.ensures.value ∙ c.in-Some.is in
    let r = c.entry-acceptance.result in
    ends-next m n c.args.fuel c.args.state f.last f.status f.named w.place w.status c.in-Some.next r (omega (arith, apart)) c.requires.state leads c.in-Some.ensures.state c.entry-acceptance.ensures
    ∙ ap (λ acceptance. after_end (plan_of m n) (c.args.fuel - 1) c.in-Some.next (accept_by (acceptance, r.1)) f.last f.status f.named w.place w.status) c.in-Continue.is
    ∙ c.ends.ensures n yes

pub returns-in-Accept : goal.returns-in-Accept
returns-in-Accept t c = λ n yes.
    let m = machine_of c.args.machine in
    let f = c.args.found in
    let w = c.args.wanted in
    let apart = c.if-fuel-eq0.false in
    let leads = sym c.next_state.ensures.value ∙ c.in-Some.is in
    let r = c.entry-acceptance.result in
    ends-next m n c.args.fuel c.args.state f.last f.status f.named w.place w.status c.in-Some.next r (omega (arith, apart)) c.requires.state leads c.in-Some.ensures.state c.entry-acceptance.ensures
    ∙ ap (λ acceptance. after_end (plan_of m n) (c.args.fuel - 1) c.in-Some.next (accept_by (acceptance, r.1)) f.last f.status f.named w.place w.status) c.in-Accept.is
    ∙ sym (ap (λ (found : Found). ends (plan_of m n) (c.args.fuel - 1) c.in-Some.next found.last found.status found.named w.place w.status) c.found_at_end.ensures)
    ∙ c.ends-in-Accept.ensures n yes

pub returns-then-found-eq0 : goal.returns-then-found-eq0
returns-then-found-eq0 t c = λ n yes.
    let m = machine_of c.args.machine in
    let f = c.args.found in
    let w = c.args.wanted in
    let apart = c.if-fuel-eq0.false in
    let leads = sym c.next_state.ensures.value ∙ c.in-Some.is in
    let r = c.entry-acceptance.result in
    ends-next m n c.args.fuel c.args.state f.last f.status f.named w.place w.status c.in-Some.next r (omega (arith, apart)) c.requires.state leads c.in-Some.ensures.state c.entry-acceptance.ensures
    ∙ ap (λ acceptance. after_end (plan_of m n) (c.args.fuel - 1) c.in-Some.next (accept_by (acceptance, r.1)) f.last f.status f.named w.place w.status) c.in-Conditional.is
    ∙ cond-true (f.named == 0) _ _ (eq-eqb f.named 0 c.if-found-eq0.true) ∙ c.ends-then-found-eq0.ensures n yes

pub returns-then-found-wanted-2 : goal.returns-then-found-wanted-2
returns-then-found-wanted-2 t c = λ n yes.
    let m = machine_of c.args.machine in
    let f = c.args.found in
    let w = c.args.wanted in
    let apart = c.if-fuel-eq0.false in
    let leads = sym c.next_state.ensures.value ∙ c.in-Some.is in
    let r = c.entry-acceptance.result in
    ends-next m n c.args.fuel c.args.state f.last f.status f.named w.place w.status c.in-Some.next r (omega (arith, apart)) c.requires.state leads c.in-Some.ensures.state c.entry-acceptance.ensures
    ∙ ap (λ acceptance. after_end (plan_of m n) (c.args.fuel - 1) c.in-Some.next (accept_by (acceptance, r.1)) f.last f.status f.named w.place w.status) c.in-Conditional.is
    ∙ cond-false (f.named == 0) _ _ (neq-eqb f.named 0 c.if-found-eq0.false)
    ∙ and_from (f.named == w.place) (c.in-Conditional.status == w.status) (eq-eqb f.named w.place c.if-found-wanted-2.true) yes
