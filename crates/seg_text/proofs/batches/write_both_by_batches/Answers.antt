use Rattle.std.proofs.Common.{◌≡◌, ◌≤◌, ◌+◌, length, length-set, slice_set, ap, arith}
use Rattle.seg_text.specs.declared.boundary.Boundary.{Boundary}
use Rattle.seg_text.specs.Boundaries.{offsets}
use Rattle.seg_text.specs.Filled.{statuses}
use Rattle.seg_text.proofs.Filling.{at-end, part-room, went-on, went-on-batch, writing-on, writing-some, written-all}
use Rattle.seg_text.proofs.batches.write_both_by_batches.Goals as goal

pub returns-in-None : goal.returns-in-None
returns-in-None g c =
    let inv = c.loop-done.invariant in
    rw (← c.min-room.ensures) (record {
      places = at-end _ _ _ _ _ _ inv.places (ap offsets c.in-None.ensures.0) c.loop-done-test.true;
      statuses_are = at-end _ _ _ _ _ _ inv.statuses_are (ap statuses c.in-None.ensures.0) c.loop-done-test.true;
      left = written-all _ _ _ _ _ inv.writing c.loop-done-test.true c.in-None.ensures.0 c.in-None.ensures.1 c.in-None.ensures.2;
    })

pub loop-done-preserved : goal.loop-done-preserved
loop-done-preserved g c =
    let inv = c.loop-done.invariant in
    let batch = c.batch-done.ensures.some in
    let places = slice_set c.loop-done.places c.loop-done.done c.in-Some.place in
    let marks = slice_set c.loop-done.statuses c.loop-done.done c.last_status.result in
    let inside : c.loop-done.done + 1 ≤ length c.args.places.now = omega (arith, c.loop-done-test.true, c.min-room.ensures) in
    let within : c.loop-done.done + 1 ≤ length c.args.statuses.now = omega (arith, c.loop-done-test.true, c.min-room.ensures) in
    let long : length places ≡ length c.args.places.now = omega (arith, c.loop-done.auto.places, length-set c.loop-done.places c.loop-done.done c.in-Some.place) in
    let wide : length marks ≡ length c.args.statuses.now = omega (arith, c.loop-done.auto.statuses, length-set c.loop-done.statuses c.loop-done.done c.last_status.result) in
    let one = part-room places (c.loop-done.done + 1) c.batch-done.result (omega (arith, inside, long)) (omega (arith, batch.room)) in
    let other = part-room marks (c.loop-done.done + 1) c.batch-done.result (omega (arith, within, wide)) (omega (arith, batch.room)) in
    record {
      writing =
          writing-some _ _ _ _ _ _ (writing-on _ _ _ _ _ _ inv.writing c.loop-done-test.true c.in-Some.ensures) batch.some
          (omega (arith, one, other, long, wide, c.min-room.ensures)) batch.left c.batch-done.ensures.status;
      places =
          went-on-batch (λ (b : Boundary). b.offset) _ _ _ _ _ _ _ _
          (went-on _ _ _ _ _ _ _ inv.places (ap offsets c.in-Some.ensures) (omega (arith, inside)))
          batch.some inside batch.left batch.places;
      statuses_are =
          went-on-batch (λ (b : Boundary). b.status) _ _ _ _ _ _ _ _
          (went-on _ _ _ _ _ _ _ inv.statuses_are (rw (← c.last_status.ensures) at (ap statuses c.in-Some.ensures)) (omega (arith, within)))
          batch.some within batch.left batch.statuses_are;
    }
