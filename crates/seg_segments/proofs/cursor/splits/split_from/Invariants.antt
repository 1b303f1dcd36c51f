use Rattle.std.proofs.Common.{ℕ, length}
use Rattle.std.specs.Prelude.{IfSome}
use Rattle.seg_text.specs.Decoding.{utf8, utf8_from}
use Rattle.seg_segments.proofs.Certain.{ReadsTwo}
use Rattle.seg_segments.proofs.Splits.{IsSplit, with_next}
use Rattle.seg_segments.proofs.cursor.splits.split_from.Given as goal

-- three items were read before those that are left; what was found is such a place, and where its item ends
abbrev pub invariant-loop-end : goal.invariant-loop-end
invariant-loop-end g l = record {
  read : ReadsTwo (utf8 l.bytes) l.before l.one (with_next l.at l.other (utf8_from l.items.place l.items.units));
  found : IfSome l.found (λ (found : ℕ × ℕ). IsSplit (g.S.BoundaryFinder.find l.segmenter) (utf8 l.bytes) found.0 found.1);
}

abbrev pub decreases-loop-end : goal.decreases-loop-end
decreases-loop-end g l = length (utf8_from l.items.place l.items.units).items
