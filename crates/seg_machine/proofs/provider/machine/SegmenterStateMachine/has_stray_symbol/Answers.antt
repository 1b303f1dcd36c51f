use Rattle.std.proofs.Common.{refl}
use Rattle.seg_machine.proofs.Machines.{stray-parts}
use Rattle.seg_machine.proofs.provider.machine.SegmenterStateMachine.has_stray_symbol.Goals as goal

pub returns : goal.returns
returns c =
    stray-parts c.args.self.now c.args.tailoring.now _ _ _ _ _ _ c.symbols.ensures (rw (c.states.ensures, c.transitions.ensures) refl) c.pseudo_symbol_shift.ensures
    c.pseudo_symbol_map.ensures c.symbol_map.ensures c.has_stray_symbol.ensures
