use Rattle.std.proofs.Common.{refl, arith}
use Rattle.seg_machine.proofs.certain.all_go_on.Goals as goal

pub returns : goal.returns
returns c = (λ _ place less. c.loop-place.invariant place (omega (arith, less, c.loop-place-test.false)), λ _. refl)
