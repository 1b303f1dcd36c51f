use Rattle.std.proofs.Common.{◌≡◌, ℕ, ◌<◌, length, false}
use Rattle.std.specs.Option.{is_some}
use Rattle.seg_machine.specs.Machine.{state_after_ends}
use Rattle.seg_machine.specs.Search.{bare}
use Rattle.seg_machine.proofs.provider.cycles.has_end_cycle.Given as goal

-- no state so far leads on
abbrev pub invariant-loop-state : goal.invariant-loop-state
invariant-loop-state l = (k : ℕ) → k < l.state → is_some (state_after_ends (bare l.states l.transitions) k (length l.states)) ≡ false
