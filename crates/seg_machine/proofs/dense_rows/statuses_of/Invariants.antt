use Rattle.std.proofs.Common.{◌≡◌, ◌<◌, ℕ, length, slice_index}
use Rattle.seg_machine.specs.Tailored.{machine_of}
use Rattle.seg_machine.specs.DenseRows.{status_of}
use Rattle.seg_machine.proofs.dense_rows.statuses_of.Given as goal

-- the statuses up to here stand
abbrev pub invariant-loop-state : goal.invariant-loop-state
invariant-loop-state l = record {
  long : length l.statuses.items ≡ l.state;
  stand : (state : ℕ) → state < l.state → slice_index l.statuses.items state ≡ status_of (machine_of l.machine) state;
}
