use Rattle.std.proofs.Common.{length}
use Rattle.seg_wrap.proofs.Cells.{IsShowing}
use Rattle.seg_wrap.proofs.wrap.measure.shown.Given as goal

abbrev pub invariant-items : goal.invariant-items
invariant-items g l = IsShowing (g.I.Cursor.text l.fn.cluster) (g.I.Cursor.text l.cluster) l.shown.bytes

abbrev pub decreases-items : goal.decreases-items
decreases-items g l = length (g.I.Cursor.text l.cluster).items
