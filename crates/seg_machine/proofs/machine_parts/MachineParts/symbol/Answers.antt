use Rattle.std.proofs.Common.{ℕ, ap, sym, ◌∙◌}
use Rattle.seg_data.specs.declared.provider.ComplexScript.{ComplexScript}
use Rattle.seg_machine.specs.Tailored.{parts_of}
use Rattle.seg_machine.proofs.Machines.{symbol-below}
use Rattle.seg_machine.proofs.machine_parts.MachineParts.symbol.Goals as goal

pub returns-then-value-self : goal.returns-then-value-self
returns-then-value-self c =
    let plain = c.args.self.now.plain c.get32-value.result c.if-value-self.true in
    ap (λ (found : ℕ × ComplexScript). found.0)
    (sym plain.1 ∙ symbol-below (parts_of c.args.self.now) _ _ c.get32-value.ensures plain.0)
