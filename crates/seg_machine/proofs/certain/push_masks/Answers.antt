use Rattle.std.proofs.Common.{arith}
use Rattle.seg_machine.proofs.Passes.{all-more, mask-more, no-more, states-behind}
use Rattle.seg_machine.proofs.certain.push_masks.Goals as goal

pub loop-one-init : goal.loop-one-init
loop-one-init c = no-more _ _ _

pub loop-one-preserved : goal.loop-one-preserved
loop-one-preserved c = mask-more _ _ _ _ _ _ _ _ c.loop-one.invariant c.states_behind-states.ensures c.mask_behind.ensures c.in_ok-push.ensures.items

pub returns : goal.returns
returns c = all-more _ _ _ _ _ c.loop-one.invariant (omega (arith, c.loop-one-test.false, c.loop-one.auto.one-end, c.symbols_in-one-end.ensures))

pub mask_behind-requires-clause-states : goal.mask_behind-requires-clause-states
mask_behind-requires-clause-states c = states-behind _ _ _ c.facts.ensures c.requires.before c.states_behind-states.ensures
