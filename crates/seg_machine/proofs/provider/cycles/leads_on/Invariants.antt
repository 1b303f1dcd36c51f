use Rattle.std.proofs.Common.{◌≡◌, ◌-◌, ◌<◌, length}
use Rattle.seg_machine.specs.Machine.{state_after_ends}
use Rattle.seg_machine.specs.Search.{bare}
use Rattle.seg_machine.proofs.provider.cycles.leads_on.Given as goal

-- the steps that are left lead where all of them do
abbrev pub invariant-loop-step : goal.invariant-loop-step
invariant-loop-step l = record {
  here : l.current < length l.states;
  same : state_after_ends (bare l.states l.transitions) l.current (length l.states - l._step) ≡ state_after_ends (bare l.states l.transitions) l.state (length l.states);
}
