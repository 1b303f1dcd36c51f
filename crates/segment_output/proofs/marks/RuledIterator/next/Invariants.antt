-- What was passed over stands behind the limit.
use Rattle.std.proofs.Common.{◌≡◌, length}
use Rattle.segment_output.specs.declared.marks.Mark.TheVariants.{Rule}
use Rattle.segment_output.proofs.MarkedPlaces.{marks_up_to}
use Rattle.segment_output.proofs.marks.RuledIterator.next.Given as goal

abbrev pub invariant-loop-end : goal.invariant-loop-end
invariant-loop-end g l = (l.self.limit ≡ l.fn.self.limit) × (marks_up_to g.B.BreakIterator.mark Rule g.L.Limit.holds l.fn.self.limit l.fn.self.breaks ≡ marks_up_to g.B.BreakIterator.mark Rule g.L.Limit.holds l.fn.self.limit l.self.breaks)

abbrev pub decreases-loop-end : goal.decreases-loop-end
decreases-loop-end g l = length l.self.breaks
