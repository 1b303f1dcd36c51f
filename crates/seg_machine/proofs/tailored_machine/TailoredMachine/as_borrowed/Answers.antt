use Rattle.std.proofs.Common.{ap, sym, ◌∙◌}
use Rattle.std.specs.Option.{option_map}
use Rattle.seg_machine.proofs.tailored_machine.TailoredMachine.as_borrowed.Goals as goal

pub from_parts-requires-clause-rows : goal.from_parts-requires-clause-rows
from_parts-requires-clause-rows c x is =
    rw (c.parts_of.ensures, c.as_ref.ensures.value)
    (c.args.self.now.rows_stand x.now (sym c.as_ref-rows.ensures.value ∙ ap (option_map (λ rows. rows.now)) is))
