use Rattle.std.proofs.Common.{refl, sym, ◌∙◌}
use Rattle.seg_machine.proofs.Engine.{gives-next, not_at_end}
use Rattle.seg_rows.proofs.rule_segmenter_v2.next_behind.Goals as goal

pub returns : goal.returns
returns g c =
    let some = not_at_end _ (sym c.is_at_end.ensures ∙ c.if-is_at_end.false) in
    let segment = c.next_segment-status.ensures.segment in
    ((gives-next _ _ _ _ 0 _ _ refl some segment c.place.ensures).steps.1, c.place.ensures, (segment.0.offset, segment.3))
