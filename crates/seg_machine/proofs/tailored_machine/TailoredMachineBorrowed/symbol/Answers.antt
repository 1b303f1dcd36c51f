use Rattle.std.proofs.Common.{ℕ, ap, sym, ◌∙◌}
use Rattle.seg_data.specs.declared.provider.ComplexScript.{ComplexScript}
use Rattle.seg_machine.specs.Machine.{Machine, symbol_and_script}
use Rattle.seg_machine.specs.Tailored.{machine_of}
use Rattle.seg_machine.proofs.Bare.{symbol-without}
use Rattle.seg_machine.proofs.Machines.{symbol-below}
use Rattle.seg_machine.proofs.tailored_machine.TailoredMachineBorrowed.symbol.Goals as goal

pub returns-then-value-self-clause-value : goal.returns-then-value-self-clause-value
returns-then-value-self-clause-value c =
    let plain = c.args.self.now.plain c.get32-value.result c.if-value-self.true in
    ap (λ (found : ℕ × ComplexScript). found.0)
    (sym plain.1 ∙ symbol-below (machine_of c.args.self.now) _ _ (rw c.symbols.ensures at c.get32-value.ensures) plain.0)

pub returns-then-value-self-clause-text : goal.returns-then-value-self-clause-text
returns-then-value-self-clause-text c = rw (returns-then-value-self-clause-value c) (c.args.self.now.text_symbols c.args.code_point)

pub returns-clause-value : goal.returns-clause-value
returns-clause-value c =
    c.symbol_of_value.ensures
    ∙ ap (λ (m : Machine). (symbol_and_script m c.args.code_point).0) c.parts.ensures
    ∙ symbol-without (machine_of c.args.self.now) c.args.code_point

pub returns-clause-text : goal.returns-clause-text
returns-clause-text c = rw (returns-clause-value c) (c.args.self.now.text_symbols c.args.code_point)
