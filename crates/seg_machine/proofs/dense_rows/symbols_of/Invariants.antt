use Rattle.std.proofs.Common.{◌≡◌, ◌<◌, ℕ, length, slice_index}
use Rattle.seg_machine.specs.Machine.{symbol_and_script}
use Rattle.seg_machine.specs.Tailored.{machine_of}
use Rattle.seg_machine.specs.DenseRows.{marked}
use Rattle.seg_machine.proofs.dense_rows.symbols_of.Given as goal

-- the symbols up to here stand
abbrev pub invariant-loop-code_point : goal.invariant-loop-code_point
invariant-loop-code_point l = record {
  long : length l.symbols.items ≡ l.code_point;
  stand : (code_point : ℕ) → code_point < l.code_point → slice_index l.symbols.items code_point ≡ marked (symbol_and_script (machine_of l.machine) code_point);
}
