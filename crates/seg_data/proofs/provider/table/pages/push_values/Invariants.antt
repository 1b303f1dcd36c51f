use Rattle.std.proofs.Common.{◌+◌}
use Rattle.seg_data.specs.Table.{HasGrown, IsFilled, IsRun, table}
use Rattle.seg_data.proofs.provider.table.pages.push_values.Given as goal

-- the values up to here stand, and the run goes on from here
abbrev pub invariant-loop-offset : goal.invariant-loop-offset
invariant-loop-offset l = record {
  filled : IsFilled (table l.ranges l.default) l.start l.initial.values.items l.values.items l.offset;
  grows : HasGrown l.initial.values.items l.values.items;
  run : IsRun (table l.ranges l.default) (l.start + l.offset) l.value l.last;
}
