use Rattle.std.proofs.Common.{refl}
use Rattle.seg_machine.specs.Machine.{state_at}
use Rattle.seg_machine.proofs.tailored_machine.TailoredMachineBorrowed.entry.Goals as goal

pub returns : goal.returns
unfolding state_at
returns c = rw c.states.ensures refl
