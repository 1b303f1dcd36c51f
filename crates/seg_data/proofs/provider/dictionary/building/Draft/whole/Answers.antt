use Rattle.std.proofs.Common.{arith}
use Rattle.seg_data.proofs.Drafts.{draft-trie, draft-words}
use Rattle.seg_data.proofs.provider.dictionary.building.Draft.whole.Goals as goal

pub returns-clause-trie : goal.returns-clause-trie
returns-clause-trie c =
    rw (c.shrink_to_fit.ensures.flags, c.shrink_to_fit.ensures.starts, c.shrink_to_fit.ensures.edges) (draft-trie _ _ _ c.loop-draft.invariant (omega arith))

pub returns-clause-words : goal.returns-clause-words
returns-clause-words c =
    rw (c.shrink_to_fit.ensures.flags, c.shrink_to_fit.ensures.starts, c.shrink_to_fit.ensures.edges) (draft-words _ _ _ c.loop-draft.invariant (omega arith))
