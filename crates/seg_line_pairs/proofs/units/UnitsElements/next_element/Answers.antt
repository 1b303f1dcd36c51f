use Rattle.std.proofs.Common.{◌∙◌, ap, refl, sym}
use Rattle.std.specs.Prelude.{Option}
use Rattle.seg_line_pairs.specs.LineBoundaries.{rules_by}
use Rattle.seg_line_pairs.specs.LineUnits.{UnitElement, elements_after}
use Rattle.seg_line_pairs.proofs.UnitElements.{unit-ends, unit-goes, unit-stops}
use Rattle.seg_line_pairs.proofs.units.UnitsElements.next_element.Goals as goal

pub returns-in_default-next_item-clause-gives : goal.returns-in_default-next_item-clause-gives
returns-in_default-next_item-clause-gives g c =
    let s = c.self.inside in
    let items = (g.I.Cursor.text s.rest).items in
    let there = ap (λ (first : Option UnitElement). elements_after (rules_by s.pairs) first items) c.in-Some.is in
    rw (← c.self.view_is) (there ∙ unit-ends (rules_by s.pairs) _ _ items items refl c.in_default-next_item.ensures.gives.0)

pub returns-then-not-is_glued-clause-gives : goal.returns-then-not-is_glued-clause-gives
returns-then-not-is_glued-clause-gives g c =
    let s = c.self.inside in
    let items = (g.I.Cursor.text s.rest).items in
    let there = ap (λ (first : Option UnitElement). elements_after (rules_by s.pairs) first items) c.in-Some.is in
    rw (← c.self.view_is) (there
    ∙ unit-stops (rules_by s.pairs) _ _ _ items items _ _ _ refl c.in-Some-next_item.ensures.gives c.class-class.ensures.value
    (sym c.is_glued.ensures ∙ c.if-not-is_glued.true) c.base_element.ensures)

pub returns-clause-gives : goal.returns-clause-gives
returns-clause-gives g c =
    let s = c.self.inside in
    let items = (g.I.Cursor.text s.rest).items in
    let there = ap (λ (first : Option UnitElement). elements_after (rules_by s.pairs) first items) c.in-Some.is in
    rw (← c.self.view_is) (there
    ∙ sym (unit-goes (rules_by s.pairs) _ _ _ items items _ _ _ refl c.in-Some-next_item.ensures.gives c.class-class.ensures.value
    (sym c.is_glued.ensures ∙ c.if-not-is_glued.false) c.marked_element.ensures)
    ∙ c.read_unit-first.ensures.unit)
