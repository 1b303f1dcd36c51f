use Rattle.seg_machine.specs.Tailored.{machine_of}
use Rattle.seg_machine.proofs.Passes.{AreRows}
use Rattle.seg_machine.proofs.certain.Passes.try_from_machine.Given as goal

-- the masks of the first first symbols
abbrev pub invariant-loop-before : goal.invariant-loop-before
invariant-loop-before l = AreRows (machine_of l.machine) l.masks.items l.before
