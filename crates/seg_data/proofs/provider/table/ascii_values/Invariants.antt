use Rattle.std.proofs.Common.{◌≡◌, length}
use Rattle.seg_data.specs.Table.{table}
use Rattle.seg_data.proofs.Paged.{AreFirst}
use Rattle.seg_data.proofs.provider.table.ascii_values.Given as goal

-- the values up to here stand
abbrev pub invariant-loop-code_point : goal.invariant-loop-code_point
invariant-loop-code_point l = record {
  long : length l.values ≡ 128;
  stand : AreFirst (table l.ranges l.default) l.values l.code_point;
}
