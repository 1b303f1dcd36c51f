use Rattle.std.proofs.Common.{false, length}
use Rattle.seg_line_pairs.specs.LineBoundaries.{rules_by}
use Rattle.seg_line_pairs.specs.LineEvents.{IsPassed}
use Rattle.seg_line_pairs.proofs.plain_pairs.plain_pairs.Given as goal

abbrev pub invariant-loop-place : goal.invariant-loop-place
invariant-loop-place g l = record {
  passed : IsPassed (rules_by l.pairs) (g.E.PairEngine.plain (rules_by l.pairs).table) l.fn.first (g.I.Cursor.text l.fn.rest) l.next (g.I.Cursor.text l.rest) false;
}

abbrev pub decreases-loop-place : goal.decreases-loop-place
decreases-loop-place g l = length (g.I.Cursor.text l.rest).items
