use Rattle.std.proofs.Common.{ap, arith}
use Rattle.seg_text.specs.Boundaries.{offsets}
use Rattle.seg_text.specs.Filled.{statuses}
use Rattle.seg_text.proofs.Filling.{at-end, went-on, writing-on, written-all}
use Rattle.seg_text.proofs.reach.write_both.Goals as goal

pub returns-in-None : goal.returns-in-None
returns-in-None g c =
    let inv = c.loop-index.invariant in
    rw (← c.min-room.ensures) (record {
      places = at-end _ _ _ _ _ _ inv.places (ap offsets c.in-None.ensures.0) c.loop-index-test.true;
      statuses_are = at-end _ _ _ _ _ _ inv.statuses_are (ap statuses c.in-None.ensures.0) c.loop-index-test.true;
      left = written-all _ _ _ _ _ inv.writing c.loop-index-test.true c.in-None.ensures.0 c.in-None.ensures.1 c.in-None.ensures.2;
    })

pub loop-index-preserved : goal.loop-index-preserved
loop-index-preserved g c =
    let inv = c.loop-index.invariant in
    rw c.last_status.ensures (record {
      writing = writing-on _ _ _ _ _ _ inv.writing c.loop-index-test.true c.in-Some.ensures;
      places = went-on _ _ _ _ _ _ _ inv.places (ap offsets c.in-Some.ensures) (omega (arith, c.loop-index-test.true, c.min-room.ensures, c.loop-index.auto.places));
      statuses_are = went-on _ _ _ _ _ _ _ inv.statuses_are (ap statuses c.in-Some.ensures) (omega (arith, c.loop-index-test.true, c.min-room.ensures, c.loop-index.auto.statuses));
    })
