use Rattle.seg_machine.specs.Tailored.{machine_of}
use Rattle.seg_machine.proofs.Passes.{AreStopped}
use Rattle.seg_machine.proofs.certain.stop_mask.Given as goal

-- to which symbols those in the first states don't go on
abbrev pub invariant-loop-place : goal.invariant-loop-place
invariant-loop-place l = AreStopped (machine_of l.machine) l.states l.one l.place l.mask
