use Rattle.std.proofs.Common.{refl, sym}
use Rattle.seg_machine.specs.Search.{bare}
use Rattle.seg_machine.proofs.Searches.{reached-at, stalls-end, sweep-next, swept}
use Rattle.seg_machine.proofs.provider.stalls.follow_set.Goals as goal

pub is_sure_at_end-requires-clause-state : goal.is_sure_at_end-requires-clause-state
is_sure_at_end-requires-clause-state c =
    rw c.state-state.ensures
    (reached-at (bare c.args.states.now c.args.transitions.now) _ _ _ _ c.loop-done.done c.loop-done.invariant (rw c.len.ensures.value at c.loop-done-test.true)).met.state

pub returns-then-not-is_sure_at_end-clause-stalls : goal.returns-then-not-is_sure_at_end-clause-stalls
returns-then-not-is_sure_at_end-clause-stalls c =
    λ stalls. stalls-end (bare c.args.states.now c.args.transitions.now) _ _
    (reached-at (bare c.args.states.now c.args.transitions.now) _ _ _ _ c.loop-done.done c.loop-done.invariant (rw c.len.ensures.value at c.loop-done-test.true))
    (sym (rw c.state-state.ensures at c.if-not-is_sure_at_end.ensures))

pub follow_pair-requires-clause-pair : goal.follow_pair-requires-clause-pair
follow_pair-requires-clause-pair c =
    rw c.state-state.ensures
    (reached-at (bare c.args.states.now c.args.transitions.now) _ _ _ _ c.loop-done.done c.loop-done.invariant (rw c.len.ensures.value at c.loop-done-test.true)).met

pub loop-done-preserved : goal.loop-done-preserved
loop-done-preserved c =
    let followed = c.if-not-follow_pair.ensures in
    sweep-next (bare c.args.states.now c.args.transitions.now) _ _ _ c.loop-done.queue _ followed.more.0 _ _ c.loop-done.invariant (rw c.len.ensures.value at c.loop-done-test.true)
    followed.reached followed.queue followed.more.1 followed.growth
    (sym (rw c.state-state.ensures at c.if-not-is_sure_at_end.ensures)) (rw c.state-state.ensures at (followed.followed refl))

pub returns-clause-done : goal.returns-clause-done
returns-clause-done c =
    λ all. swept (bare c.args.states.now c.args.transitions.now) _ _ _ _ c.loop-done.done c.loop-done.invariant (rw c.len.ensures.value at c.loop-done-test.false) c.requires.done
