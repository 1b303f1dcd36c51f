-- So many places were written, and their boundaries are gone.
use Rattle.std.proofs.Common.{◌≡◌}
use Rattle.std.specs.Prelude.{drop}
use Rattle.seg_text.specs.Boundaries.{offsets}
use Rattle.seg_segments.specs.TextSegments.{marked}
use Rattle.seg_text.proofs.Filling.{Filling}
use Rattle.seg_segments.proofs.segments.BreakIterator.fill.Given as goal

abbrev pub invariant-loop-index : goal.invariant-loop-index
invariant-loop-index g l = record {
  filling : Filling (offsets (g.Self.BreakIterator.left l.initial.self)) l.initial.places l.places l.index (offsets (g.Self.BreakIterator.left l.self));
  left : marked g.Self.BreakIterator.mark (g.Self.BreakIterator.left l.self) ≡ drop l.index (marked g.Self.BreakIterator.mark (g.Self.BreakIterator.left l.initial.self));
}
