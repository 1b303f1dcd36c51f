use Rattle.std.proofs.Common.{length}
use Rattle.seg_wrap.specs.Walk.{IsMeasuring}
use Rattle.seg_wrap.proofs.wrap.extent.Extent.of_text.Given as goal

abbrev pub invariant-items : goal.invariant-items
invariant-items g l = IsMeasuring (g.I.Cursor.text l.fn.text) (g.I.Cursor.text l.text) l.extent

abbrev pub decreases-items : goal.decreases-items
decreases-items g l = length (g.I.Cursor.text l.text).items
