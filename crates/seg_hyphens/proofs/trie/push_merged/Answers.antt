use Rattle.std.proofs.Common.{rules}
use Rattle.seg_hyphens.proofs.Growing.{more-merged, all-merged}
use Rattle.seg_hyphens.proofs.trie.push_merged.Goals as goal

pub loop-offset-preserved : goal.loop-offset-preserved
loop-offset-preserved c = more-merged _ _ _ _ _ _ _ _ _ _ _ c.loop-offset.invariant (search rules) c.requires c.deref.ensures.value c.digit_at-digit.ensures c.digit_at-other.ensures c.max.ensures (search rules)

pub returns : goal.returns
returns c = all-merged _ _ _ _ _ _ c.loop-offset.invariant (search rules) c.requires
