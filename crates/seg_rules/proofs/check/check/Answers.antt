use Rattle.std.proofs.Common.{◌≡◌, ◌+◌, ◌-◌, ◌/◌, length, arith, ◌∙◌}
use Rattle.seg_machine.specs.Machine.{symbol_count}
use Rattle.seg_machine.specs.Tailored.{machine_of}
use Rattle.seg_rules.specs.Given.{rules_of}
use Rattle.seg_rules.proofs.Passing.{passed-law}
use Rattle.seg_rules.proofs.check.check.Goals as goal

pub passes-requires-clause-symbol : goal.passes-requires-clause-symbol
unfolding symbol_count
passes-requires-clause-symbol c =
    let m = machine_of c.args.machine in
    let states = c.states-states.ensures ∙ c.machine.ensures.states in
    let transitions = c.transitions.ensures ∙ c.machine-2.ensures.transitions in
    let apart = c.if-symbols-eq0.false in
    let many = length c.transitions.result.now / length c.states-states.result.now in
    let same : many - 1 + 1 ≡ many = omega (arith, apart) in
    same ∙ (λ i. length (transitions i) / length (states i))

pub returns : goal.returns
returns c = λ yes. passed-law (rules_of c.args.rules.now) _ c.args.certificate.now (machine_of c.args.machine) (c.passes.ensures yes) c.facts.ensures
