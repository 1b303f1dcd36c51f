use Rattle.std.proofs.Common.{ℕ, ap, ◌∙◌}
use Rattle.seg_data.specs.declared.provider.ComplexScript.{ComplexScript}
use Rattle.seg_machine.specs.Tailored.{parts_of}
use Rattle.seg_machine.proofs.Machines.{symbol-below, symbol-entry}
use Rattle.seg_machine.proofs.machine_parts.MachineParts.symbol_of_value.Goals as goal

pub bounds-self-value : goal.bounds-self-value
bounds-self-value c =
    rw c.requires
    (c.args.self.now.entries c.args.code_point (rw c.requires at c.if-value-shift.false))

pub returns-then-value-shift : goal.returns-then-value-shift
returns-then-value-shift c =
    ap (λ (found : ℕ × ComplexScript). found.0)
    (c.replacement_by.ensures ∙ symbol-below (parts_of c.args.self.now) _ _ c.requires c.if-value-shift.true)

pub returns-else-value-shift : goal.returns-else-value-shift
returns-else-value-shift c =
    ap (λ (found : ℕ × ComplexScript). found.0)
    (symbol-entry (parts_of c.args.self.now) c.args.code_point _ c.requires c.if-value-shift.false)
