use Rattle.seg_hyphens.specs.Liang.{edged}
use Rattle.seg_hyphens.specs.Values.{AreRaised}
use Rattle.seg_hyphens.proofs.values.set_values.Given as goal

abbrev pub invariant-starts : goal.invariant-starts
invariant-starts l = AreRaised l.trie (edged l.word) l.start 0 l.values
