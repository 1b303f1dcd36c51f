use Rattle.std.proofs.Common.{◌+◌, ◌-◌, ◌/◌, arith}
use Rattle.seg_data.proofs.Runs.{all-before}
use Rattle.seg_data.proofs.provider.table.runs.first_reaching.Goals as goal

pub loop-low-preserved-then-ranges-middle : goal.loop-low-preserved-then-ranges-middle
loop-low-preserved-then-ranges-middle c = record {
  order = omega arith;
  within = c.loop-low.invariant.within;
  before = all-before c.args.ranges.now c.args.code_point (c.loop-low.low + (c.loop-low.high - c.loop-low.low) / 2) c.requires (omega arith) c.if-ranges-middle.true;
  reaches = c.loop-low.invariant.reaches;
}
