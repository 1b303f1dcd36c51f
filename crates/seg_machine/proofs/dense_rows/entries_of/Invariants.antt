use Rattle.std.proofs.Common.{◌≡◌, ◌<◌, ℕ, length, slice_index}
use Rattle.seg_machine.specs.Tailored.{machine_of}
use Rattle.seg_machine.specs.DenseRows.{index_entry}
use Rattle.seg_machine.proofs.dense_rows.entries_of.Given as goal

-- the entries up to here stand
abbrev pub invariant-loop-index : goal.invariant-loop-index
invariant-loop-index l = record {
  long : length l.entries.items ≡ l.index;
  stand : (index : ℕ) → index < l.index → slice_index l.entries.items index ≡ index_entry (machine_of l.machine) index;
}
