use Rattle.seg_line_pairs.specs.LineBoundaries.{rules_by}
use Rattle.seg_line_pairs.proofs.LineEvents.{ahead-read, some-first}
use Rattle.seg_line_pairs.proofs.events.first_units.Goals as goal

pub returns : goal.returns
returns g c =
    ahead-read _ (rules_by c.pairs.result) c.args.ahead.now.text (g.I.Cursor.text c.in-Some.rest) c.in-Some.first c.from_item-units.result _ _
    c.pairs.ensures c.in-Some.ensures.0 c.from_item-units.ensures
    c.in-Some-next_element.ensures.gives c.in-Some-next_element.ensures.end c.in-Some-next_element.ensures.table c.in-Some-next_element.ensures.class

pub unreachable-requires : goal.unreachable-requires
unreachable-requires g c =
    some-first (rules_by c.pairs.result) c.in-Some.first (g.I.Cursor.text c.in-Some.rest) _ c.from_item-units.ensures c.in_default-next_element.ensures.gives.0
