use Rattle.std.proofs.Common.{◌≡◌, ◌<◌, ℕ, length, slice_index}
use Rattle.seg_machine.specs.Passes.{IsStepMask}
use Rattle.seg_machine.specs.Tailored.{machine_of}
use Rattle.seg_machine.proofs.certain.step_masks.Given as goal

-- the first states have their masks
abbrev pub invariant-loop-state : goal.invariant-loop-state
invariant-loop-state l = record {
  long : length l.masks.items ≡ l.state;
  stand : (state : ℕ) → state < l.state → IsStepMask (machine_of l.machine) state (slice_index l.masks.items state);
}
