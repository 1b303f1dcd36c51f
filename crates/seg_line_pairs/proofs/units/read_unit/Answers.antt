use Rattle.std.proofs.Common.{◌∙◌, ap, sym}
use Rattle.seg_line_pairs.specs.LineUnits.{UnitElement}
use Rattle.seg_line_pairs.specs.LineBoundaries.{rules_by}
use Rattle.seg_line_pairs.proofs.UnitElements.{unit-ends, unit-stops, unit-goes}
use Rattle.seg_line_pairs.proofs.units.read_unit.Goals as goal

pub returns-in_default-clause-unit : goal.returns-in_default-clause-unit
returns-in_default-clause-unit g c = unit-ends (rules_by c.args.pairs) _ _ _ _ c.loop-place.invariant.same c.in_default.ensures.gives.0

pub returns-then-not-is_glued-clause-unit : goal.returns-then-not-is_glued-clause-unit
returns-then-not-is_glued-clause-unit g c =
    unit-stops (rules_by c.args.pairs) _ _ _ _ _ _ _ _ c.loop-place.invariant.same c.in-Some.ensures.gives c.class-class.ensures.value
    (sym c.is_glued.ensures ∙ c.if-not-is_glued.true) c.base_element.ensures

pub loop-place-preserved : goal.loop-place-preserved
loop-place-preserved g c = record {
  same = unit-goes (rules_by c.args.pairs) _ _ _ _ _ _ _ _ c.loop-place.invariant.same c.in-Some.ensures.gives c.class-class.ensures.value
      (sym c.is_glued.ensures ∙ c.if-not-is_glued.false) c.marked_element-unit.ensures;
  end = c.in-Some.ensures.end ∙ c.loop-place.invariant.end;
  class = ap (λ (unit : UnitElement). unit.class) c.marked_element-unit.ensures ∙ c.loop-place.invariant.class;
}
