use Rattle.seg_machine.specs.Search.{AreDone, AreFollowed, AreReached, bare}
use Rattle.seg_machine.proofs.provider.stalls.is_stall_free.Given as goal

-- each marked pair is reached, START is followed, and the first sets are done
abbrev pub invariant-loop-kept : goal.invariant-loop-kept
invariant-loop-kept l = record {
  reached : AreReached (bare l.states l.transitions) l.marks;
  start : AreFollowed (bare l.states l.transitions) l.marks 0 0;
  done : AreDone (bare l.states l.transitions) l.marks l.kept;
}
