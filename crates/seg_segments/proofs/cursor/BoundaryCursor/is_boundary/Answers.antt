use Rattle.std.proofs.Common.{arith}
use Rattle.seg_segments.proofs.Nearest.{among}
use Rattle.seg_segments.proofs.cursor.BoundaryCursor.is_boundary.Goals as goal

pub returns-else-place-eq0 : goal.returns-else-place-eq0
returns-else-place-eq0 g c = among _ _ _ _ (omega (arith, c.if-place-eq0.false)) c.next_boundary.ensures c.eq.ensures
