use Rattle.std.proofs.Common.{ap}
use Rattle.seg_line_turns.specs.declared.turn_units.TurnOutcome.TheVariants.{Go}
use Rattle.seg_line_turns.proofs.TurnPlaces.{base-past}
use Rattle.seg_line_turns.proofs.bases.go_to_base.Goals as goal

pub returns : goal.returns
returns g c = λ whole number at.
    ap (λ place. Go place c.args.opened) (base-past whole (g.I.Cursor.text c.args.rest.now) number _ c.base_ahead.result.place c.base_ahead.ensures.place at)
