use Rattle.std.proofs.Common.{◌-◌}
use Rattle.seg_machine.specs.Search.{bare}
use Rattle.seg_machine.proofs.Searches.{IsSweep}
use Rattle.seg_machine.proofs.provider.stalls.follow_set.Given as goal

-- the first states of the queue are done
abbrev pub invariant-loop-done : goal.invariant-loop-done
invariant-loop-done l = IsSweep (bare l.states l.transitions) l.initial.marks l.marks l.queue l.kept l.done

abbrev pub decreases-loop-done : goal.decreases-loop-done
decreases-loop-done l = 255 - l.done
