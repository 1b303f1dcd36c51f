use Rattle.std.proofs.Common.{ap}
use Rattle.seg_text.specs.Boundaries.{offsets}
use Rattle.seg_text.proofs.Filling.{at-end, went-on, writing-on, written-all}
use Rattle.seg_text.proofs.reach.write_places.Goals as goal

pub returns-in-None : goal.returns-in-None
returns-in-None g c =
    let inv = c.loop-index.invariant in
    record {
      places = at-end _ _ _ _ _ _ inv.filling (ap offsets c.in-None.ensures.0) c.loop-index-test.true;
      left = written-all _ _ _ _ _ inv.writing c.loop-index-test.true c.in-None.ensures.0 c.in-None.ensures.1 c.in-None.ensures.2;
    }

pub loop-index-preserved : goal.loop-index-preserved
loop-index-preserved g c =
    let inv = c.loop-index.invariant in
    record {
      writing = writing-on _ _ _ _ _ _ inv.writing c.loop-index-test.true c.in-Some.ensures;
      filling = went-on _ _ _ _ _ _ _ inv.filling (ap offsets c.in-Some.ensures) c.loop-index-test.true;
    }
