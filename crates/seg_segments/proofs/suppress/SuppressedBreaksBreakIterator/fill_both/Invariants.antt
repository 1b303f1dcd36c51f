-- So many places and statuses were written, and their boundaries are gone.
use Rattle.std.proofs.Common.{◌≡◌}
use Rattle.std.specs.Prelude.{drop}
use Rattle.seg_text.specs.Boundaries.{offsets}
use Rattle.seg_text.specs.Filled.{statuses}
use Rattle.seg_text.proofs.Filling.{Filling}
use Rattle.seg_segments.specs.SuppressedLeft.{suppressed_left}
use Rattle.seg_segments.proofs.suppress.SuppressedBreaksBreakIterator.fill_both.Given as goal

abbrev pub invariant-loop-index : goal.invariant-loop-index
invariant-loop-index g l = record {
  places : Filling (offsets (suppressed_left l.initial.self)) l.initial.places l.places l.index (offsets (suppressed_left l.self));
  statuses_are : Filling (statuses (suppressed_left l.initial.self)) l.initial.statuses l.statuses l.index (statuses (suppressed_left l.self));
  left : suppressed_left l.self ≡ drop l.index (suppressed_left l.initial.self);
}
