use Rattle.std.proofs.Common.{◌≡◌, Some, take}
use Rattle.seg_hyphens.specs.Tries.{child, walk, Grows}
use Rattle.seg_hyphens.proofs.trie.Trie.node_of.Given as goal

abbrev pub invariant-loop-letter : goal.invariant-loop-letter
invariant-loop-letter l = Grows l.initial.self l.self × (walk (child l.self) 0 (take l.letter-index l.letters) ≡ Some l.node)
