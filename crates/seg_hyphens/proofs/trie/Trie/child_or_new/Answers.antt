use Rattle.std.proofs.Common.{rules}
use Rattle.seg_hyphens.proofs.Growing.{grow}
use Rattle.seg_hyphens.proofs.trie.Trie.child_or_new.Goals as goal

pub returns-clause-grows : goal.returns-clause-grows
returns-clause-grows c = grow _ _ _ c.args.node c.args.letter c.requires.is c.requires.inside (search rules) (search rules) (search rules)
