use Rattle.std.proofs.Common.{ℕ, ◌<◌, arith, length}
use Rattle.yengatomu_segmenter.proofs.Later.{put-more}
use Rattle.yengatomu_segmenter.proofs.buffers.put_marks.Goals as goal

pub loop-index-preserved : goal.loop-index-preserved
loop-index-preserved g c =
    let inside : c.loop-index.index < length c.args.marks.now = omega (arith, c.loop-index-test.true, c.requires) in
    rw (c.number.ensures, c.mark_of.ensures)
    (put-more (λ (status : ℕ). g.M.Mark.number (g.B.BreakIterator.mark status)) _ _ _ c.loop-index.invariant inside)
