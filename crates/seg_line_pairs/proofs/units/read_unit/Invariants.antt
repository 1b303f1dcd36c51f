use Rattle.std.proofs.Common.{◌≡◌, length}
use Rattle.seg_line_pairs.specs.LineBoundaries.{rules_by}
use Rattle.seg_line_pairs.specs.LineUnits.{elements_from}
use Rattle.seg_line_pairs.proofs.units.read_unit.Given as goal

abbrev pub invariant-loop-place : goal.invariant-loop-place
invariant-loop-place g l = record {
  same : elements_from (rules_by l.pairs) l.unit (g.I.Cursor.text l.rest).items ≡ elements_from (rules_by l.pairs) l.fn.base (g.I.Cursor.text l.fn.rest).items;
  end : (g.I.Cursor.text l.rest).end ≡ (g.I.Cursor.text l.fn.rest).end;
  class : l.unit.class ≡ l.fn.base.class;
}

abbrev pub decreases-loop-place : goal.decreases-loop-place
decreases-loop-place g l = length (g.I.Cursor.text l.rest).items
