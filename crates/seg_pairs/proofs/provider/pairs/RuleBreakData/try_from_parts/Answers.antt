use Rattle.seg_pairs.proofs.Pairs.{pair_table-from}
use Rattle.seg_pairs.proofs.provider.pairs.RuleBreakData.try_from_parts.Goals as goal

pub invariant_of-result : goal.invariant_of-result
invariant_of-result c = pair_table-from _ (rw (← c.as_slice.ensures.value) c.in_ok-check_pairs.ensures.accepted)
