-- So many were counted, and these are left.
use Rattle.std.proofs.Common.{◌≡◌, ◌+◌, length}
use Rattle.yengatomu_segmenter.proofs.buffers.count.Given as goal

abbrev pub invariant-loop-places : goal.invariant-loop-places
invariant-loop-places g l = record {
  all : l.total + length (g.B.BreakIterator.left l.breaks) + 1 ≡ length (g.B.BreakIterator.left l.fn.breaks);
  long : length l.places ≡ 64;
}

abbrev pub decreases-loop-places : goal.decreases-loop-places
decreases-loop-places g l = length (g.B.BreakIterator.left l.breaks)
