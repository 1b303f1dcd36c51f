-- So many statuses were changed.
use Rattle.std.proofs.Common.{◌≡◌, ℕ}
use Rattle.yengatomu_segmenter.proofs.Later.{put_up_to}
use Rattle.yengatomu_segmenter.proofs.buffers.put_marks.Given as goal

abbrev pub invariant-loop-index : goal.invariant-loop-index
invariant-loop-index g l = l.marks ≡ put_up_to (λ (status : ℕ). g.M.Mark.number (g.B.BreakIterator.mark status)) l.initial.marks l.index
