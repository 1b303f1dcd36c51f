use Rattle.std.proofs.Common.{length, sym, ap, ◌∙◌, arith}
use Rattle.seg_machine.proofs.Passes.{all-behind, none-behind, none-more, one-behind}
use Rattle.seg_machine.proofs.certain.states_behind.Goals as goal
use Rattle.seg_machine.proofs.certain.states_behind.Goals.{in-Some, in_default}

pub loop-state-init : goal.loop-state-init
loop-state-init c = rw c.new-states.ensures (none-behind _ _)

pub loop-state-preserved : goal.loop-state-preserved
loop-state-preserved c =
    elim c.match-next_state.branch [
      | in-Some w ↦
          rw w.states-is
          (one-behind _ _ _ _ _ _ c.loop-state.invariant (omega (arith, c.loop-state-test.true, ap length (c.states-state-end.ensures ∙ c.machine.ensures.states))) (sym c.next_state.ensures.value ∙ w.in-Some.is) w.push.ensures.listed w.push.ensures.more)
      | in_default w ↦ rw w.states-is (none-more _ _ _ _ c.loop-state.invariant (sym c.next_state.ensures.value ∙ w.in_default.is))
    ]

pub returns : goal.returns
returns c = all-behind _ _ _ _ c.loop-state.invariant (omega (arith, c.loop-state-test.false, ap length (c.states-state-end.ensures ∙ c.machine.ensures.states)))
