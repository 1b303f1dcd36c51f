use Rattle.std.proofs.Common.{ℕ, ap, sym, ◌∙◌}
use Rattle.std.proofs.lemmas.Bool.{ltb-true}
use Rattle.std.specs.Option.{option_map}
use Rattle.seg_data.specs.declared.provider.ComplexScript.{ComplexScript}
use Rattle.seg_machine.specs.Machine.{with_parts}
use Rattle.seg_machine.proofs.Machines.{symbol-below, entry-read, entry-none}
use Rattle.seg_machine.proofs.tailored_machine.script_of.Goals as goal

pub returns-then-value-shift : goal.returns-then-value-shift
returns-then-value-shift c =
    let m = with_parts c.args.machine.now c.args.pseudo_symbol_map.now (option_map (λ t. t.now) c.args.replacing) in
    ap (λ (found : ℕ × ComplexScript). found.1)
    (c.replacement_by.ensures ∙ symbol-below m _ _ (rw c.symbols.ensures at c.get32-value.ensures) (rw c.pseudo_symbol_shift-shift.ensures at c.if-value-shift.true))

pub returns-in-Some : goal.returns-in-Some
returns-in-Some c =
    let m = with_parts c.args.machine.now c.args.pseudo_symbol_map.now (option_map (λ t. t.now) c.args.replacing) in
    ap (λ (found : ℕ × ComplexScript). found.1)
    (entry-read m _ _ _ _ (rw c.symbols.ensures at c.get32-value.ensures) c.pseudo_symbol_shift-shift.ensures c.if-value-shift.false (ltb-true _ _ (sym c.in-Some.ensures.lookup.0)) c.in-Some.ensures.lookup.1)

pub returns-in-None : goal.returns-in-None
returns-in-None c =
    let m = with_parts c.args.machine.now c.args.pseudo_symbol_map.now (option_map (λ t. t.now) c.args.replacing) in
    ap (λ (found : ℕ × ComplexScript). found.1)
    (entry-none m _ _ _ (rw c.symbols.ensures at c.get32-value.ensures) c.pseudo_symbol_shift-shift.ensures c.if-value-shift.false c.in-None.ensures.lookup.3)
