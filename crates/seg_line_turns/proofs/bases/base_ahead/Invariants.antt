use Rattle.std.proofs.Common.{length}
use Rattle.seg_line_pairs.specs.LineBoundaries.{rules_by}
use Rattle.seg_line_turns.proofs.TurnPlaces.{IsLooking}
use Rattle.seg_line_turns.proofs.bases.base_ahead.Given as goal

abbrev pub invariant-loop-place : goal.invariant-loop-place
invariant-loop-place g l = record { looking : IsLooking (rules_by l.pairs) (g.I.Cursor.text l.rest) (g.I.Cursor.text l.ahead) l.last }

abbrev pub decreases-loop-place : goal.decreases-loop-place
decreases-loop-place g l = length (g.I.Cursor.text l.ahead).items
