use Rattle.std.proofs.Common.{ℕ, length}
use Rattle.std.specs.Prelude.{Option, None}
use Rattle.seg_text.specs.Boundaries.{offsets}
use Rattle.seg_segments.specs.NearBoundaries.{places_of_units, IsNearestAbove}
use Rattle.seg_segments.proofs.Nearest.{Ascends}
use Rattle.seg_segments.proofs.cursor.SegmenterOf.nearest_above.Given as goal

abbrev pub invariant-loop-found : goal.invariant-loop-found
invariant-loop-found g l = record {
  ascends : Ascends None (offsets (g.Self.Breaks.BreakIterator.left l.breaks)) (length (g.I.Units.Units.units l.fn.text));
  nearest : (nearest : Option ℕ) → IsNearestAbove (offsets (g.Self.Breaks.BreakIterator.left l.breaks)) l.place nearest
      → IsNearestAbove (places_of_units g.I.Source.decode (g.Self.BoundaryFinder.find l.self) (g.I.Units.Units.units l.fn.text)) l.place nearest;
}

abbrev pub decreases-loop-found : goal.decreases-loop-found
decreases-loop-found g l = length (offsets (g.Self.Breaks.BreakIterator.left l.breaks))
