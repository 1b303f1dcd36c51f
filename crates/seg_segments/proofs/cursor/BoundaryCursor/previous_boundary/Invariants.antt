use Rattle.std.proofs.Common.{ℕ, ◌<◌, ◌≤◌}
use Rattle.std.specs.Prelude.{Option}
use Rattle.seg_segments.specs.NearBoundaries.{IsNearestBelow}
use Rattle.seg_segments.proofs.cursor.BoundaryCursor.previous_boundary.Given as goal

-- the nearest below the one place is the nearest below the other
abbrev pub invariant-starts : goal.invariant-starts
invariant-starts g l = record {
  order : l.from < l.below;
  within : l.below ≤ l.place;
  nearest : (nearest : Option ℕ) → IsNearestBelow l.self l.below nearest → IsNearestBelow l.self l.place nearest;
}

abbrev pub decreases-starts : goal.decreases-starts
decreases-starts g l = l.from
