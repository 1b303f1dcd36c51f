use Rattle.std.proofs.Common.{refl}
use Rattle.seg_line_turns.proofs.turns.start_class.Goals as goal

pub returns-in-Index-clause-below : goal.returns-in-Index-clause-below
returns-in-Index-clause-below c = c.entry_at_start.ensures.state c.in-Index.state (rw c.in-Index.is refl)
