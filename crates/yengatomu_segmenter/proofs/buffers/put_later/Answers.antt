use Rattle.std.proofs.Common.{◌<◌, ◌+◌, ℕ, arith, length}
use Rattle.yengatomu_segmenter.proofs.Later.{not-yet, put-more}
use Rattle.yengatomu_segmenter.proofs.buffers.put_later.Goals as goal

pub overflow_add-places : goal.overflow_add-places
overflow_add-places c =
    let inside : c.loop-index.index < length c.args.places.now = omega (arith, c.loop-index-test.true, c.requires.count) in
    omega (arith, not-yet (λ (place : ℕ). c.args.from + place) _ _ _ c.loop-index.invariant inside, c.requires.fits c.loop-index.index c.loop-index-test.true)

pub loop-index-preserved : goal.loop-index-preserved
loop-index-preserved c =
    let inside : c.loop-index.index < length c.args.places.now = omega (arith, c.loop-index-test.true, c.requires.count) in
    put-more (λ (place : ℕ). c.args.from + place) _ _ _ c.loop-index.invariant inside
