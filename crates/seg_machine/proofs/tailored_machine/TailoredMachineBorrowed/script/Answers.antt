use Rattle.std.proofs.Common.{ℕ, ap, sym, ◌∙◌}
use Rattle.seg_data.specs.declared.provider.ComplexScript.{ComplexScript}
use Rattle.seg_machine.specs.Tailored.{machine_of}
use Rattle.seg_machine.proofs.Machines.{symbol-below}
use Rattle.seg_machine.proofs.tailored_machine.TailoredMachineBorrowed.script.Goals as goal

pub returns-then-value-self : goal.returns-then-value-self
returns-then-value-self c =
    let plain = c.args.self.now.plain c.get32-value.result c.if-value-self.true in
    ap (λ (found : ℕ × ComplexScript). found.1)
    (sym plain.1 ∙ symbol-below (machine_of c.args.self.now) _ _ (rw c.symbols.ensures at c.get32-value.ensures) plain.0)
