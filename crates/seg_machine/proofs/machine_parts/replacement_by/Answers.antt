use Rattle.std.proofs.Common.{refl}
use Rattle.seg_machine.specs.Machine.{replaced}
use Rattle.seg_machine.proofs.machine_parts.replacement_by.Goals as goal

pub returns-in-None : goal.returns-in-None
unfolding replaced
returns-in-None c = rw c.in-None.is refl
