use Rattle.std.proofs.Common.{arith}
use Rattle.icu_segmenter.proofs.Filling.{went-on, at-end}
use Rattle.yengatomu_segmenter.proofs.Lines.{ends-next, ends-none, units-next}
use Rattle.yengatomu_segmenter.proofs.wrapped.fill.Goals as goal

pub returns-in-None : goal.returns-in-None
returns-in-None g c =
    at-end _ _ _ _ _ _ c.loop-index.invariant.filling (ends-none c.loop-index.end _ c.in-None.ensures.0) c.loop-index-test.true

pub overflow_add-end : goal.overflow_add-end
overflow_add-end g c =
    omega (arith, units-next c.loop-index.end _ _ _ _ c.in-Some.ensures.1.0 c.in-Some.ensures.1.1.0, c.loop-index.invariant.inside)

pub loop-index-preserved : goal.loop-index-preserved
loop-index-preserved g c =
    let next = ends-next c.loop-index.end _ _ _ _ c.in-Some.ensures.1.0 c.in-Some.ensures.1.1.0 in
    let units = units-next c.loop-index.end _ _ _ _ c.in-Some.ensures.1.0 c.in-Some.ensures.1.1.0 in
    record {
      filling = went-on _ _ _ _ _ _ _ c.loop-index.invariant.filling next c.loop-index-test.true;
      inside = omega (arith, units, c.loop-index.invariant.inside);
    }
