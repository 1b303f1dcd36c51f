use Rattle.std.proofs.Common.{◌<◌, ℕ, length}
use Rattle.seg_text.specs.Items.{Text, code_points}
use Rattle.seg_line_pairs.specs.LineBoundaries.{rules_by}
use Rattle.seg_line_turns.specs.TurnPlaces.{IsWalkAt, walker_seen}
use Rattle.seg_line_turns.specs.Turns.{walk_turn}
use Rattle.seg_line_turns.proofs.TurnReads.{IsWalking}
use Rattle.seg_line_turns.proofs.turn_walk.walk.Given as goal

abbrev pub invariant-loop-place : goal.invariant-loop-place
invariant-loop-place g l = record {
  state : l.walker.state < (rules_by l.pairs).table.property_count;
  walking : (whole : Text) (number saved : ℕ) → IsWalkAt whole number saved l.fn.begin (g.I.Cursor.text l.fn.rest)
      → IsWalking (rules_by l.pairs) whole l.walker (g.I.Cursor.text l.rest) (walk_turn (rules_by l.pairs) (walker_seen saved l.fn.begin) number (code_points (g.I.Cursor.text l.fn.rest).items));
}

abbrev pub decreases-loop-place : goal.decreases-loop-place
decreases-loop-place g l = length (g.I.Cursor.text l.rest).items
