use Rattle.std.proofs.Common.{refl}
use Rattle.std.proofs.lemmas.Bool.{false≢true}
use Rattle.seg_machine.proofs.Passes.{mask-alone, mask-started}
use Rattle.seg_machine.proofs.certain.mask_behind.Goals as goal

pub returns-then-all_go_on : goal.returns-then-all_go_on
returns-then-all_go_on c = mask-alone _ _ _ _ c.stop_mask-mask.ensures (c.if-all_go_on.ensures.0 refl)

pub returns : goal.returns
returns c = mask-started _ _ _ _ _ c.stop_mask-mask.ensures c.stop_mask_of.ensures (λ go. false≢true (c.if-all_go_on.ensures.1 go))
