use Rattle.seg_machine.proofs.Marks.{AreFirst}
use Rattle.seg_machine.proofs.provider.found.queue_of.Given as goal

-- of the first states those that are marked are in the queue
abbrev pub invariant-loop-state : goal.invariant-loop-state
invariant-loop-state l = AreFirst l.marks l.queue l.kept l.state
