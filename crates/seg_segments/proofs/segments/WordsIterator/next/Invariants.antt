use Rattle.std.proofs.Common.{◌≡◌, length}
use Rattle.seg_segments.specs.SegmentsLeft.{words_left}
use Rattle.seg_segments.proofs.segments.WordsIterator.next.Given as goal

abbrev pub invariant-segments : goal.invariant-segments
invariant-segments g l = words_left l.self ≡ words_left l.fn.self

abbrev pub decreases-segments : goal.decreases-segments
decreases-segments g l = length l.self.segments
