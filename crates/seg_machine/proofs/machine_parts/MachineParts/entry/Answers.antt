use Rattle.std.proofs.Common.{refl}
use Rattle.seg_machine.specs.Machine.{state_at}
use Rattle.seg_machine.proofs.machine_parts.MachineParts.entry.Goals as goal

pub returns : goal.returns
unfolding state_at
returns c = refl
