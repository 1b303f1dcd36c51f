use Rattle.std.proofs.Common.{take}
use Rattle.seg_data.specs.WordSets.{code_points_of_each}
use Rattle.seg_segments.specs.InLines.{AreInLines}
use Rattle.seg_segments.proofs.suppress.abbreviations.have_line_feed.Given as goal

abbrev pub invariant-loop-word : goal.invariant-loop-word
invariant-loop-word l = AreInLines (code_points_of_each (take l.word-index l.words))
