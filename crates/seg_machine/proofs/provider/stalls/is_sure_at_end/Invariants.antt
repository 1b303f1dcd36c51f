use Rattle.std.proofs.Common.{◌≡◌, ◌-◌, ◌<◌, length, replicate}
use Rattle.seg_machine.specs.Search.{bare, is_settled, is_settled_at_end}
use Rattle.seg_machine.proofs.provider.stalls.is_sure_at_end.Given as goal

-- the end steps that are left settle what all of them do
abbrev pub invariant-loop-step : goal.invariant-loop-step
invariant-loop-step l = record {
  here : l.current < length l.states;
  small : l.set < 256;
  same : is_settled (bare l.states l.transitions) l.current l.set (replicate (length l.states - l._step) 0) ≡ is_settled_at_end (bare l.states l.transitions) l.state l.kept;
}
