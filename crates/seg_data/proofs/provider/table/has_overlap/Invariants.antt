use Rattle.seg_data.proofs.Ranges.{AreApart}
use Rattle.seg_data.proofs.provider.table.has_overlap.Given as goal

abbrev pub invariant-loop-k : goal.invariant-loop-k
invariant-loop-k l = AreApart l.ranges l.k
