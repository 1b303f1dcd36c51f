use Rattle.std.proofs.Common.{◌+◌, ◌-◌, ◌/◌, arith}
use Rattle.seg_data.proofs.Along.{all-before, all-after}
use Rattle.seg_data.proofs.provider.dictionary.edges.first_from.Goals as goal

pub loop-low-preserved-then-edges-middle : goal.loop-low-preserved-then-edges-middle
loop-low-preserved-then-edges-middle c = record {
  order = omega arith;
  within = c.loop-low.invariant.within;
  before = all-before c.args.edges.now c.args.code_point (c.loop-low.low + (c.loop-low.high - c.loop-low.low) / 2) c.requires (omega arith) c.if-edges-middle.true;
  after = c.loop-low.invariant.after;
}

pub loop-low-preserved : goal.loop-low-preserved
loop-low-preserved c = record {
  order = omega arith;
  within = omega arith;
  before = c.loop-low.invariant.before;
  after = all-after c.args.edges.now c.args.code_point (c.loop-low.low + (c.loop-low.high - c.loop-low.low) / 2) c.requires c.if-edges-middle.false;
}
