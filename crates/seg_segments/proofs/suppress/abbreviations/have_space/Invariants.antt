use Rattle.std.proofs.Common.{take}
use Rattle.seg_data.specs.WordSets.{code_points_of_each}
use Rattle.seg_segments.specs.InLines.{AreSpaceless}
use Rattle.seg_segments.proofs.suppress.abbreviations.have_space.Given as goal

abbrev pub invariant-loop-word : goal.invariant-loop-word
invariant-loop-word l = AreSpaceless (code_points_of_each (take l.word-index l.words))
