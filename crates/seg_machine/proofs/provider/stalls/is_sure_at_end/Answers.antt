use Rattle.std.proofs.Common.{sym}
use Rattle.seg_machine.specs.Machine.{state_at}
use Rattle.seg_machine.specs.Search.{bare}
use Rattle.seg_machine.proofs.Settled.{end-none, end-stop, end-next, end-all}
use Rattle.seg_machine.proofs.provider.stalls.is_sure_at_end.Goals as goal

pub enter_state-requires : goal.enter_state-requires
unfolding state_at
enter_state-requires c = record { named = c.requires.bounded.lookaheads c.in-Some.next }

pub returns-in_default : goal.returns-in_default
returns-in_default c =
    end-none (bare c.args.states.now c.args.transitions.now) _ _ _ _ _ (sym c.in_default.ensures.value) c.loop-step-test.true c.loop-step.invariant.same

pub returns-in_default-enter_state : goal.returns-in_default-enter_state
unfolding state_at
returns-in_default-enter_state c =
    end-stop (bare c.args.states.now c.args.transitions.now) _ _ c.in-Some.next _ _ _ (sym c.in-Some.ensures.value)
    (sym c.in_default-enter_state.ensures.after) c.loop-step-test.true c.loop-step.invariant.same

pub loop-step-preserved : goal.loop-step-preserved
unfolding state_at
loop-step-preserved c = record {
  here = c.in-Some.ensures.state;
  small = c.in-Some-enter_state.ensures.in_range;
  same =
      end-next (bare c.args.states.now c.args.transitions.now) _ _ c.in-Some.next c.in-Some-enter_state.after _ _ _ (sym c.in-Some.ensures.value)
      (sym c.in-Some-enter_state.ensures.after) c.loop-step-test.true c.loop-step.invariant.same;
}

pub returns : goal.returns
returns c = end-all (bare c.args.states.now c.args.transitions.now) _ _ _ _ _ c.loop-step-test.false c.loop-step.invariant.same
