use Rattle.std.proofs.Common.{ap, arith, sym, ◌∙◌}
use Rattle.seg_text.specs.Boundaries.{offsets}
use Rattle.seg_text.specs.Filled.{statuses}
use Rattle.seg_text.proofs.Filling.{at-end, behind, went-on}
use Rattle.seg_segments.specs.SuppressedLeft.{suppressed_left}
use Rattle.seg_segments.proofs.suppress.SuppressedBreaksBreakIterator.fill_both.Goals as goal

pub returns-in_default-clause-places : goal.returns-in_default-clause-places
returns-in_default-clause-places g c =
    rw (← c.min-room.ensures) (at-end _ _ _ _ _ _ c.loop-index.invariant.places (ap offsets c.in_default.ensures.0) c.loop-index-test.true)

pub returns-in_default-clause-marks : goal.returns-in_default-clause-marks
returns-in_default-clause-marks g c =
    rw (← c.min-room.ensures) (at-end _ _ _ _ _ _ c.loop-index.invariant.statuses_are (ap statuses c.in_default.ensures.0) c.loop-index-test.true)

pub loop-index-preserved : goal.loop-index-preserved
loop-index-preserved g c =
    let inv = c.loop-index.invariant in record {
      places =
          went-on _ _ _ _ _ _ _ inv.places (ap offsets c.in-Some.ensures) (omega (arith, c.loop-index-test.true, c.min-room.ensures, c.loop-index.auto.places));
      statuses_are =
          went-on _ _ _ _ _ _ _ inv.statuses_are (ap statuses c.in-Some.ensures) (omega (arith, c.loop-index-test.true, c.min-room.ensures, c.loop-index.auto.statuses));
      left = sym (behind (suppressed_left c.args.self.now) c.loop-index.index _ _ (sym inv.left ∙ c.in-Some.ensures));
    }
