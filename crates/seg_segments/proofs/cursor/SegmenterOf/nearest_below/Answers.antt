use Rattle.std.proofs.Common.{arith}
use Rattle.seg_segments.proofs.Nearest.{ascends, ascends-step, below-ended, below-found, below-passed, last-within}
use Rattle.seg_segments.proofs.cursor.SegmenterOf.nearest_below.Goals as goal
use Rattle.seg_segments.proofs.cursor.SegmenterOf.nearest_below.Goals.{in-Some+then-found-place, in_default}

pub loop-found-init : goal.loop-found-init
loop-found-init g c = record { ascends = ascends _ _ _ c.breaks-breaks.ensures.cover; below = tt; nearest = λ nearest is. rw (← c.breaks-breaks.ensures.boundaries) is }

pub loop-found-preserved : goal.loop-found-preserved
loop-found-preserved g c = record {
  ascends = ascends-step g.Self.Breaks.BreakIterator.mark g.Self.Breaks.BreakIterator.left _ _ _ _ _ _ c.in-Some.ensures c.loop-found.invariant.ascends;
  below = omega (arith, c.if-found-place.false);
  nearest = λ nearest is. c.loop-found.invariant.nearest nearest
      (below-passed g.Self.Breaks.BreakIterator.mark g.Self.Breaks.BreakIterator.left _ _ _ _ _ _ _ nearest c.in-Some.ensures c.loop-found.invariant.ascends (omega (arith, c.if-found-place.false)) is);
}

pub returns-clause-nearest : goal.returns-clause-nearest
returns-clause-nearest g c = c.loop-found.invariant.nearest c.loop-found.nearest (elim c.match-next_break.branch [
  | in-Some+then-found-place w ↦
      below-found g.Self.Breaks.BreakIterator.mark g.Self.Breaks.BreakIterator.left _ _ _ _ _ _ _ w.in-Some.ensures c.loop-found.invariant.ascends (omega (arith, w.if-found-place.true)) c.loop-found.invariant.below
  | in_default w ↦ below-ended g.Self.Breaks.BreakIterator.mark g.Self.Breaks.BreakIterator.left _ _ _ _ w.in_default.ensures c.loop-found.invariant.below
])

pub returns-clause-within : goal.returns-clause-within
returns-clause-within g c = last-within _ _ _ c.loop-found.invariant.ascends
