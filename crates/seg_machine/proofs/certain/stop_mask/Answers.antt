use Rattle.std.proofs.Common.{arith}
use Rattle.seg_machine.proofs.Passes.{none-stopped, one-stopped}
use Rattle.seg_machine.proofs.certain.stop_mask.Goals as goal

pub loop-place-init : goal.loop-place-init
loop-place-init c = none-stopped _ _ _

pub loop-place-preserved : goal.loop-place-preserved
loop-place-preserved c = one-stopped _ _ _ _ _ _ c.loop-place.invariant (rw (← c.state.ensures) c.stop_mask_of-mask.ensures)

pub returns : goal.returns
returns c = λ other within.
    let stops = c.loop-place.invariant other within in (
      λ none place less. stops.0 none place (omega (arith, less, c.loop-place-test.false, c.len-place-end.ensures.value)),
      λ all. stops.1 (λ place less. all place (omega (arith, less, c.loop-place.auto.place-end, c.len-place-end.ensures.value))),
    )
