use Rattle.seg_machine.specs.Machine.{state_at}
use Rattle.seg_machine.proofs.tailored_machine.TailoredMachineBorrowed.mark.Goals as goal

pub returns : goal.returns
unfolding state_at
returns c = c.mark.ensures
