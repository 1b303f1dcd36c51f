use Rattle.std.proofs.Common.{◌≡◌, ◌<◌, ◌≤◌, ◌+◌, length, length-set, slice_set, ap, arith}
use Rattle.seg_text.specs.declared.boundary.Boundary.{Boundary}
use Rattle.seg_text.specs.Boundaries.{offsets}
use Rattle.seg_text.proofs.Filling.{at-end, part-room, went-on, went-on-batch, writing-on, writing-some, written-all}
use Rattle.seg_text.proofs.batches.write_places_by_batches.Goals as goal

pub returns-in-None : goal.returns-in-None
returns-in-None g c =
    let inv = c.loop-done.invariant in
    let less : c.loop-done.done < length c.args.places.now = omega (arith, c.loop-done-test.true, c.loop-done.auto.places) in
    record {
      places = at-end _ _ _ _ _ _ inv.places (ap offsets c.in-None.ensures.0) less;
      left = written-all _ _ _ _ _ inv.writing less c.in-None.ensures.0 c.in-None.ensures.1 c.in-None.ensures.2;
    }

pub loop-done-preserved : goal.loop-done-preserved
loop-done-preserved g c =
    let inv = c.loop-done.invariant in
    let batch = c.batch-done.ensures.some in
    let places = slice_set c.loop-done.places c.loop-done.done c.in-Some.place in
    let less : c.loop-done.done < length c.args.places.now = omega (arith, c.loop-done-test.true, c.loop-done.auto.places) in
    let inside : c.loop-done.done + 1 ≤ length c.args.places.now = omega (arith, less) in
    let long : length places ≡ length c.args.places.now = omega (arith, c.loop-done.auto.places, length-set c.loop-done.places c.loop-done.done c.in-Some.place) in
    let one = part-room places (c.loop-done.done + 1) c.batch-done.result (omega (arith, inside, long)) (omega (arith, batch.room)) in
    record {
      writing =
          writing-some _ _ _ _ _ _ (writing-on _ _ _ _ _ _ inv.writing less c.in-Some.ensures) batch.some
          (omega (arith, one, long)) batch.left c.batch-done.ensures.status;
      places =
          went-on-batch (λ (b : Boundary). b.offset) _ _ _ _ _ _ _ _
          (went-on _ _ _ _ _ _ _ inv.places (ap offsets c.in-Some.ensures) less)
          batch.some inside batch.left batch.places;
    }
