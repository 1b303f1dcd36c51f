use Rattle.std.proofs.Common.{◌≡◌, ℕ, ◌<◌}
use Rattle.std.specs.Prelude.{None}
use Rattle.seg_machine.specs.Machine.{step}
use Rattle.seg_machine.specs.Tailored.{machine_of}
use Rattle.seg_clusters.proofs.resets.is_last_state.Given as goal

-- no symbol so far leads on
abbrev pub invariant-loop-symbol : goal.invariant-loop-symbol
invariant-loop-symbol l = (before : ℕ) → before < l.symbol → step (machine_of l.fn.machine) l.fn.state before ≡ None
