-- What was passed over stands behind the limit.
use Rattle.std.proofs.Common.{◌≡◌, length}
use Rattle.segment_output.specs.Output.{shown_places, unmarked}
use Rattle.segment_output.proofs.marks.BareIterator.next.Given as goal

abbrev pub invariant-loop-end : goal.invariant-loop-end
invariant-loop-end g l =
    (l.self.limit ≡ l.fn.self.limit)
    × (unmarked (shown_places (g.L.Limit.holds l.fn.self.limit) l.fn.self.places) ≡ unmarked (shown_places (g.L.Limit.holds l.fn.self.limit) l.self.places))

abbrev pub decreases-loop-end : goal.decreases-loop-end
decreases-loop-end g l = length l.self.places
