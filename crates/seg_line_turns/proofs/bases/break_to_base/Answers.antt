use Rattle.std.proofs.Common.{ap, ◌∙◌}
use Rattle.seg_line_turns.specs.declared.turn_units.TurnOutcome.TheVariants.{Break}
use Rattle.seg_line_turns.specs.TurnPlaces.{item_place}
use Rattle.seg_line_turns.proofs.TurnPlaces.{base-past}
use Rattle.seg_line_turns.proofs.bases.break_to_base.Goals as goal

pub returns : goal.returns
returns g c = λ whole number here at.
    ap (λ place. Break place c.base_ahead.result.place) here
    ∙ ap (Break (item_place number whole)) (base-past whole (g.I.Cursor.text c.args.rest.now) number _ c.base_ahead.result.place c.base_ahead.ensures.place at)
