use Rattle.std.proofs.Common.{arith, rules}
use Rattle.textcut.proofs.Said.{Appends-at_ok, Appends-at_err}
use Rattle.textcut.proofs.failure.say.Goals as goal
use Rattle.textcut.proofs.failure.say.Goals.{in-Ok, in-Err}

pub loop-turn-preserved : goal.loop-turn-preserved
loop-turn-preserved g c = elim c.match-write.branch [
  | in-Ok w ↦ record {
    within = search rules;
    written = rw w.said-is (Appends-at_ok _ _ _ _ _ c.loop-turn.invariant.written c.write.result w.in-Ok.count (c.write.ensures.bytes) w.in-Ok.is);
  }
  | in-Err w ↦ record {
    within = omega arith;
    written = rw w.said-is (Appends-at_err _ _ _ _ _ c.loop-turn.invariant.written c.write.result w.in-Err.e (c.write.ensures.bytes) w.in-Err.is);
  }
]
