use Rattle.std.proofs.Common.{arith}
use Rattle.std.specs.Prelude.{Some, None}
use Rattle.seg_segments.proofs.Nearest.{above-ended, above-found, above-passed, ascends, ascends-rest, ascends-step}
use Rattle.seg_segments.proofs.cursor.SegmenterOf.nearest_above.Goals as goal

pub loop-found-init : goal.loop-found-init
loop-found-init g c = record { ascends = ascends _ _ _ c.breaks-breaks.ensures.cover; nearest = λ nearest is. rw (← c.breaks-breaks.ensures.boundaries) is }

pub returns-then-found-place-clause-nearest : goal.returns-then-found-place-clause-nearest
returns-then-found-place-clause-nearest g c =
    c.loop-found.invariant.nearest (Some c.in-Some.found)
    (above-found g.Self.Breaks.BreakIterator.mark g.Self.Breaks.BreakIterator.left _ _ _ _ _ _ c.in-Some.ensures c.loop-found.invariant.ascends (omega (arith, c.if-found-place.true))).0

pub returns-then-found-place-clause-within : goal.returns-then-found-place-clause-within
returns-then-found-place-clause-within g c =
    (above-found g.Self.Breaks.BreakIterator.mark g.Self.Breaks.BreakIterator.left _ _ _ _ c.args.place _ c.in-Some.ensures c.loop-found.invariant.ascends (omega (arith, c.if-found-place.true))).1

pub loop-found-preserved : goal.loop-found-preserved
loop-found-preserved g c = record {
  ascends = ascends-rest _ _ _ (ascends-step g.Self.Breaks.BreakIterator.mark g.Self.Breaks.BreakIterator.left _ _ _ _ None _ c.in-Some.ensures c.loop-found.invariant.ascends);
  nearest = λ nearest is. c.loop-found.invariant.nearest nearest
      (above-passed g.Self.Breaks.BreakIterator.mark g.Self.Breaks.BreakIterator.left _ _ _ _ _ nearest c.in-Some.ensures (omega (arith, c.if-found-place.false)) is);
}

pub returns-clause-nearest : goal.returns-clause-nearest
returns-clause-nearest g c =
    c.loop-found.invariant.nearest None (above-ended g.Self.Breaks.BreakIterator.mark g.Self.Breaks.BreakIterator.left _ _ _ c.in_default.ensures)
