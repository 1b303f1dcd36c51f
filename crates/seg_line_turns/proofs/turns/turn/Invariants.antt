use Rattle.std.proofs.Common.{◌<◌, ℕ, length}
use Rattle.seg_text.specs.Items.{Text, code_points}
use Rattle.seg_line_pairs.specs.LineBoundaries.{rules_by}
use Rattle.seg_line_turns.specs.TurnPlaces.{IsLeft, left_seen}
use Rattle.seg_line_turns.specs.Turns.{turn}
use Rattle.seg_line_turns.proofs.TurnReads.{IsTurning}
use Rattle.seg_line_turns.proofs.turns.turn.Given as goal

abbrev pub invariant-loop-place : goal.invariant-loop-place
invariant-loop-place g l = record {
  class : l.left.class < (rules_by l.pairs).table.property_count;
  turning : (whole : Text) (last : ℕ) → IsLeft whole last l.fn.first (g.I.Cursor.text l.fn.rest)
      → IsTurning (rules_by l.pairs) whole l.opened l.left (g.I.Cursor.text l.rest) (turn (rules_by l.pairs) l.opened (left_seen last l.fn.first) (code_points (g.I.Cursor.text l.fn.rest).items));
}

abbrev pub decreases-loop-place : goal.decreases-loop-place
decreases-loop-place g l = length (g.I.Cursor.text l.rest).items
