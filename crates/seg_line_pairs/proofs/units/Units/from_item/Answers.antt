use Rattle.std.proofs.Common.{◌∙◌, ap}
use Rattle.seg_line_pairs.specs.LineBoundaries.{rules_by}
use Rattle.seg_line_pairs.specs.LineUnits.{UnitElement, UnitsLeft, base_element, elements_from}
use Rattle.seg_line_pairs.proofs.units.Units.from_item.Goals as goal

pub returns : goal.returns
returns g c =
    let text = g.I.Cursor.text c.args.rest in
    let made : UnitElement → UnitsLeft = λ base. record { rules = rules_by c.args.pairs; left = elements_from (rules_by c.args.pairs) base text.items; end = text.end } in
    ap made (c.base_element-base.ensures ∙ ap (base_element c.args.first.place c.args.first.code_point) c.requires.is)
