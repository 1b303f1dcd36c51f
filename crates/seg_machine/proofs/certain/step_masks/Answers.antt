use Rattle.std.proofs.Common.{arith, length, ap, ◌∙◌}
use Rattle.std.proofs.lemmas.List.{length_push}
use Rattle.seg_machine.specs.Passes.{IsStepMask}
use Rattle.seg_machine.specs.Tailored.{machine_of}
use Rattle.seg_machine.proofs.Passes.{masks-more}
use Rattle.seg_machine.proofs.certain.step_masks.Goals as goal

pub loop-state-preserved : goal.loop-state-preserved
loop-state-preserved c = record {
  long = omega (arith, ap length c.in_ok-push.ensures.items ∙ length_push _ _, c.loop-state.invariant.long);
  stand = masks-more (IsStepMask (machine_of c.args.machine.now)) _ _ _ _ c.loop-state.invariant.long c.loop-state.invariant.stand c.step_mask.ensures c.in_ok-push.ensures.items;
}
