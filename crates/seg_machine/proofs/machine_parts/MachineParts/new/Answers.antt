use Rattle.std.proofs.Common.{refl}
use Rattle.std.specs.Option.{option_map}
use Rattle.seg_machine.specs.Machine.{with_parts}
use Rattle.seg_machine.proofs.Machines.{entry-within}
use Rattle.seg_machine.proofs.machine_parts.MachineParts.new.Goals as goal

pub invariant_of-result-clause-entries : goal.invariant_of-result-clause-entries
invariant_of-result-clause-entries c =
    let m = with_parts c.args.machine.now c.args.pseudo_symbol_map.now (option_map (λ t. t.now) c.args.symbol_map) in
    rw (c.symbols.ensures, c.pseudo_symbol_shift.ensures) (λ code_point past. entry-within m code_point _ refl past (c.requires.text code_point))

pub invariant_of-result-clause-plain : goal.invariant_of-result-clause-plain
invariant_of-result-clause-plain c = rw c.pseudo_symbol_shift.ensures c.requires.plain
