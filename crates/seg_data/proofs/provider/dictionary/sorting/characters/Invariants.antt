use Rattle.std.proofs.Common.{◌≡◌, take}
use Rattle.seg_data.specs.WordSets.{code_points_of_each, held}
use Rattle.seg_data.proofs.provider.dictionary.sorting.characters.Given as goal

abbrev pub invariant-loop-word : goal.invariant-loop-word
invariant-loop-word l = held l.all.items ≡ code_points_of_each (take l.word-index l.words)
