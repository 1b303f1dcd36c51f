use Rattle.std.proofs.Common.{◌≢◌, ℕ, ◌<◌}
use Rattle.seg_pairs.specs.PairData.{pair_table_of, class_by}
use Rattle.seg_pairs.proofs.pair_data.PairDataBorrowed.has_complex_below_0100.Given as goal

abbrev pub invariant-loop-code_point : goal.invariant-loop-code_point
invariant-loop-code_point l = (below : ℕ) → below < l.code_point → class_by l.self below ≢ (pair_table_of l.self).complex_property
