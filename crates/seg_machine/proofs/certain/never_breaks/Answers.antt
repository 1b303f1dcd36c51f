use Rattle.std.proofs.Common.{length, refl, ap, ◌∙◌, arith}
use Rattle.seg_machine.proofs.certain.never_breaks.Goals as goal

pub returns : goal.returns
returns c = (λ _ state within. c.loop-state.invariant state (omega (arith, within, c.loop-state-test.false, ap length (c.states-state-end.ensures ∙ c.machine.ensures.states))), λ _. refl)
