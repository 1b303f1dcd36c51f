use Rattle.seg_segments.proofs.Parts.{part-above-none, part-above-some}
use Rattle.seg_segments.proofs.cursor.BoundaryCursor.next_boundary.Goals as goal

pub returns-in_err-found : goal.returns-in_err-found
returns-in_err-found g c =
    rw (c.from_residual.ensures, ← c.self.view_is)
    (part-above-none _ _ _ _ c.part_at-part.ensures.part c.part_at-part.ensures.order c.in_err-found.ensures.nearest)

pub returns : goal.returns
returns g c =
    rw (← c.self.view_is)
    (part-above-some _ _ _ _ _ c.part_at-part.ensures.starts c.part_at-part.ensures.part c.part_at-part.ensures.order c.in_ok-found.ensures.nearest)
