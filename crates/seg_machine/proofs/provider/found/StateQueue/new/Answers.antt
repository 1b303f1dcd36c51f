use Rattle.seg_machine.proofs.Tables.{table-start}
use Rattle.seg_machine.proofs.provider.found.StateQueue.new.Goals as goal

pub invariant_of-result : goal.invariant_of-result
invariant_of-result c = rw c.new.ensures (table-start 255)
