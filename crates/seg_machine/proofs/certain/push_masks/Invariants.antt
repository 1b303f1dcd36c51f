use Rattle.seg_machine.specs.Tailored.{machine_of}
use Rattle.seg_machine.proofs.Passes.{AreMore}
use Rattle.seg_machine.proofs.certain.push_masks.Given as goal

-- masks stand behind the others, of the first second symbols
abbrev pub invariant-loop-one : goal.invariant-loop-one
invariant-loop-one l = AreMore (machine_of l.machine) l.before l.fn.masks.items l.masks.items l.one
