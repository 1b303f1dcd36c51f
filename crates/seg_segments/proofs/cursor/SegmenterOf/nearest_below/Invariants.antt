use Rattle.std.proofs.Common.{ℕ, ◌<◌, length}
use Rattle.std.specs.Prelude.{Option, IfSome}
use Rattle.std.specs.List.{cons_option}
use Rattle.seg_text.specs.Boundaries.{offsets}
use Rattle.seg_segments.specs.NearBoundaries.{places_of_units, IsNearestBelow}
use Rattle.seg_segments.proofs.Nearest.{Ascends}
use Rattle.seg_segments.proofs.cursor.SegmenterOf.nearest_below.Given as goal

abbrev pub invariant-loop-found : goal.invariant-loop-found
invariant-loop-found g l = record {
  ascends : Ascends l.nearest (offsets (g.Self.Breaks.BreakIterator.left l.breaks)) (length (g.I.Units.Units.units l.fn.text));
  below : IfSome l.nearest (λ last. last < l.place);
  nearest : (nearest : Option ℕ) → IsNearestBelow (cons_option l.nearest (offsets (g.Self.Breaks.BreakIterator.left l.breaks))) l.place nearest
      → IsNearestBelow (places_of_units g.I.Source.decode (g.Self.BoundaryFinder.find l.self) (g.I.Units.Units.units l.fn.text)) l.place nearest;
}

abbrev pub decreases-loop-found : goal.decreases-loop-found
decreases-loop-found g l = length (offsets (g.Self.Breaks.BreakIterator.left l.breaks))
