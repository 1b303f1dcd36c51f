use Rattle.std.proofs.Common.{ℕ, ◌<◌}
use Rattle.std.specs.Prelude.{IfSome}
use Rattle.seg_machine.specs.Machine.{step}
use Rattle.seg_machine.specs.Tailored.{machine_of}
use Rattle.seg_clusters.specs.Rules.{IsLastState}
use Rattle.seg_clusters.proofs.resets.is_reset.Given as goal

-- from each state so far the symbol leads to none, or to a last one
abbrev pub invariant-loop-state : goal.invariant-loop-state
invariant-loop-state l = (before : ℕ) → before < l.state → IfSome (step (machine_of l.fn.machine) before l.fn.symbol) (IsLastState (machine_of l.fn.machine))
