use Rattle.std.proofs.Common.{◌≡◌, ◌++◌, take, drop}
use Rattle.seg_hyphens.specs.Tries.{merged}
use Rattle.seg_hyphens.proofs.trie.push_merged.Given as goal

abbrev pub invariant-loop-offset : goal.invariant-loop-offset
invariant-loop-offset l =
    l.all.items ≡ l.initial.all.items ++ take l.offset (merged (take l.len (drop l.start l.initial.all.items)) l.others)
