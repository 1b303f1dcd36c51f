use Rattle.std.proofs.Common.{ap, arith}
use Rattle.yengatomu_segmenter.specs.Wrapped.{widths_of}
use Rattle.icu_segmenter.proofs.Filling.{went-on, at-end}
use Rattle.yengatomu_segmenter.proofs.Lines.{ends-next, ends-none, units-next}
use Rattle.yengatomu_segmenter.proofs.wrapped.fill_both.Goals as goal

pub overflow_add-end : goal.overflow_add-end
overflow_add-end g c =
    omega (arith, units-next c.loop-index.end _ _ _ _ c.in-Some.ensures.1.0 c.in-Some.ensures.1.1.0, c.loop-index.invariant.inside)

pub loop-index-preserved : goal.loop-index-preserved
loop-index-preserved g c =
    let next = ends-next c.loop-index.end _ _ _ _ c.in-Some.ensures.1.0 c.in-Some.ensures.1.1.0 in
    let units = units-next c.loop-index.end _ _ _ _ c.in-Some.ensures.1.0 c.in-Some.ensures.1.1.0 in
    record {
      ends = went-on _ _ _ _ _ _ _ c.loop-index.invariant.ends next (omega (arith, c.loop-index-test.true, c.min-room.ensures));
      widths = went-on _ _ _ _ _ _ _ c.loop-index.invariant.widths (rw (c.min.ensures, c.in-Some.ensures.1.1.1) (ap widths_of c.in-Some.ensures.1.0)) (omega (arith, c.loop-index-test.true, c.min-room.ensures));
      inside = omega (arith, units, c.loop-index.invariant.inside);
    }

pub returns-in-None-clause-lines : goal.returns-in-None-clause-lines
returns-in-None-clause-lines g c =
    at-end _ _ _ _ _ _ c.loop-index.invariant.ends (ends-none c.loop-index.end _ c.in-None.ensures.0) (omega (arith, c.loop-index-test.true, c.min-room.ensures))
