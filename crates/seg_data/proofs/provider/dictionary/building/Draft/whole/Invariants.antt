use Rattle.std.proofs.Common.{length}
use Rattle.seg_data.specs.Building.{IsDraft, left}
use Rattle.seg_data.specs.WordSets.{held}
use Rattle.seg_data.specs.Trie.{trie}
use Rattle.seg_data.proofs.provider.dictionary.building.Draft.whole.Given as goal

abbrev pub invariant-loop-draft : goal.invariant-loop-draft
invariant-loop-draft l = IsDraft (held l.words) l.draft.ranges.items (trie l.draft.flags.items l.draft.starts.items l.draft.edges.items)

abbrev pub decreases-loop-draft : goal.decreases-loop-draft
decreases-loop-draft l = left (held l.words) l.draft.ranges.items (length l.draft.flags.items)
