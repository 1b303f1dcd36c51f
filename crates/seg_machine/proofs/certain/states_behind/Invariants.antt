use Rattle.seg_machine.specs.Tailored.{machine_of}
use Rattle.seg_machine.proofs.Passes.{AreBehind}
use Rattle.seg_machine.proofs.certain.states_behind.Given as goal

-- those that the symbol leads to from the first states
abbrev pub invariant-loop-state : goal.invariant-loop-state
invariant-loop-state l = AreBehind (machine_of l.machine) l.symbol l.states l.state
