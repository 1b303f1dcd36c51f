use Rattle.std.proofs.Common.{arith}
use Rattle.std.proofs.lemmas.List.{length-map}
use Rattle.icu_segmenter.specs.Boundary.{Boundary}
use Rattle.icu_segmenter.proofs.Given.{cover-few}
use Rattle.yengatomu_segmenter.proofs.buffers.count.Goals as goal

pub overflow_add-total : goal.overflow_add-total
overflow_add-total g c =
    omega (
      arith,
      c.requires.fits,
      c.loop-places.invariant.all,
      c.fill-count.ensures.filled.few,
      length-map (g.B.BreakIterator.left c.loop-places.breaks) (λ (b : Boundary). b.offset),
      cover-few _ _ c.requires.cover,
    )
