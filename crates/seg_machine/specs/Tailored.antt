-- What is seen of machines with their tailorings.
use Rattle.std.specs.Prelude.{Bool, []}
use Rattle.std.specs.Option.{is_some, option_map}
use Rattle.seg_machine.specs.Machine.{Machine, machine, with_tailoring, with_parts}
use Rattle.seg_machine.specs.declared.machine_parts.MachineParts.{MachineParts}
use Rattle.seg_machine.specs.declared.tailored_machine.TailoredMachine.{TailoredMachine}
use Rattle.seg_machine.specs.declared.tailored_machine.TailoredMachineBorrowed.{TailoredMachineBorrowed}

abbrev pub owned_machine : TailoredMachine → Machine
owned_machine t = with_tailoring t.machine t.tailoring

-- whether its dense rows were made
abbrev pub has_rows : TailoredMachine → Bool
has_rows t = is_some t.rows

abbrev pub machine_of : TailoredMachineBorrowed → Machine
machine_of t = with_parts t.machine.now t.pseudo_symbol_map.now (option_map (λ replacing. replacing.now) t.replacing)

-- the machine of these parts, which have no transitions
abbrev pub parts_of : MachineParts → Machine
parts_of p =
    with_parts (machine p.symbols.now p.states.now [] p.num_lookaheads p.pseudo_symbol_shift p.pseudo_symbol_map.now) p.pseudo_symbol_map.now (option_map (λ t. t.now) p.symbol_map)
