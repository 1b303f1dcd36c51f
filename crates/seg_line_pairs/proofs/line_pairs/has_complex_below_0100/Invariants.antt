use Rattle.std.proofs.Common.{◌≡◌, ℕ, ◌<◌, false}
use Rattle.seg_pairs.specs.PairData.{class_by}
use Rattle.seg_line_pairs.specs.LineRules.{is_complex_by}
use Rattle.seg_line_pairs.proofs.line_pairs.has_complex_below_0100.Given as goal

abbrev pub invariant-loop-code_point : goal.invariant-loop-code_point
invariant-loop-code_point l = (below : ℕ) → below < l.code_point → is_complex_by l.engine l.table (class_by l.pairs below) ≡ false
