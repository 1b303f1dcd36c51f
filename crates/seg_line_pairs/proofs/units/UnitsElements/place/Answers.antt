use Rattle.std.proofs.Common.{◌∙◌, ap, sym}
use Rattle.std.specs.Prelude.{Option}
use Rattle.seg_pairs.specs.Elements.{place_at}
use Rattle.seg_line_pairs.specs.LineBoundaries.{rules_by}
use Rattle.seg_line_pairs.specs.LineUnits.{UnitElement, elements_after}
use Rattle.seg_line_pairs.proofs.UnitElements.{from-place}
use Rattle.seg_line_pairs.proofs.units.UnitsElements.place.Goals as goal

pub returns-in-Some : goal.returns-in-Some
returns-in-Some g c =
    let s = c.self.inside in
    let text = g.I.Cursor.text s.rest in
    let there = ap (λ (first : Option UnitElement). place_at (elements_after (rules_by s.pairs) first text.items) text.end) c.in-Some.is in
    rw (← c.self.view_is) (sym (there ∙ from-place (rules_by s.pairs) c.in-Some.first text.items text.end))
