use Rattle.seg_machine.specs.Tailored.{machine_of}
use Rattle.seg_machine.proofs.Passes.{AreSteps}
use Rattle.seg_machine.proofs.certain.step_mask.Given as goal

-- the first symbols have their bits, and the others none
abbrev pub invariant-loop-symbol : goal.invariant-loop-symbol
invariant-loop-symbol l = AreSteps (machine_of l.machine) l.state l.symbol l.mask
