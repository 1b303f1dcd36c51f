use Rattle.std.proofs.Common.{ℕ, ◌+◌, length}
use Rattle.seg_notation.specs.Sets.{has, join_of}
use Rattle.seg_notation.proofs.Merging.{Merged}
use Rattle.seg_notation.proofs.points.CodePoints.joined.Given as goal

abbrev pub invariant-loop-change : goal.invariant-loop-change
invariant-loop-change l =
    (m : ℕ) × Merged (join_of l.join) (has l.self.changes.items) (has l.other.changes.items)
    l.merge.one.now l.merge.other.now l.merge.in_one l.merge.in_other l.changes.items l.is_in m

abbrev pub decreases-loop-change : goal.decreases-loop-change
decreases-loop-change l = length l.merge.one.now + length l.merge.other.now
