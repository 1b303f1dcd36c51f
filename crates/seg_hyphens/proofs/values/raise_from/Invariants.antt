use Rattle.std.proofs.Common.{◌+◌, ◌-◌, length}
use Rattle.seg_hyphens.specs.Liang.{edged}
use Rattle.seg_hyphens.specs.Values.{AreRaised, IsNode}
use Rattle.seg_hyphens.proofs.values.raise_from.Given as goal

abbrev pub invariant-letters : goal.invariant-letters
invariant-letters l = record {
  raised : AreRaised l.trie (edged l.word) l.start l.count l.values;
  node : IsNode l.trie (edged l.word) l.start l.count l.next;
}

abbrev pub decreases-letters : goal.decreases-letters
decreases-letters l = length l.word + 3 - (l.start + l.count)
