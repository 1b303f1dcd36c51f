use Rattle.std.proofs.Common.{◌≡◌, ◌<◌, ℕ, None, length, slice_index, slice_index_or}
use Rattle.seg_machine.specs.declared.provider.Acceptance.TheVariants.{Continue}
use Rattle.seg_machine.specs.Scan.{IsMark}
use Rattle.seg_machine.proofs.provider.marks.marks_of.Given as goal

-- the states up to here have their marks
abbrev pub invariant-loop-state : goal.invariant-loop-state
invariant-loop-state l = record {
  long : length l.marks ≡ 256;
  stand : (state : ℕ) → state < l.state → IsMark (slice_index_or l.states state (Continue, None)) (slice_index l.marks state);
}
