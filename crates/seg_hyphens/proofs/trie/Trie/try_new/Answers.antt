use Rattle.std.proofs.Common.{rules}
use Rattle.seg_hyphens.proofs.Growing.{new-trie, new-keeps}
use Rattle.seg_hyphens.proofs.trie.Trie.try_new.Goals as goal

pub returns-clause-is : goal.returns-clause-is
returns-clause-is c = new-trie (record { children = c.new.result; ranges = c.push.new.self; digits = c.new-2.result }) (search rules) (search rules)

pub returns-clause-keeps : goal.returns-clause-keeps
returns-clause-keeps c = new-keeps (record { children = c.new.result; ranges = c.push.new.self; digits = c.new-2.result }) (search rules)
