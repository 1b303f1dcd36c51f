use Rattle.seg_segments.proofs.Cutting.{cuts-within}
use Rattle.seg_segments.proofs.Hints.{segments-few, segments-some}
use Rattle.seg_segments.proofs.segments.MarkedSegmentsIterator.size_hint.Goals as goal

pub overflow_sub-units : goal.overflow_sub-units
overflow_sub-units g c = rw c.len.ensures (cuts-within _ _ _ _ c.self.invariant)

pub returns-clause-lower : goal.returns-clause-lower
returns-clause-lower g c _ = rw (← c.self.view_is, c.min.ensures, c.len.ensures) (segments-some _ _ _ _ c.self.invariant)

pub returns-clause-upper : goal.returns-clause-upper
returns-clause-upper g c = (tt, rw (← c.self.view_is, c.len.ensures) (segments-few _ _ _ _ c.self.invariant))
