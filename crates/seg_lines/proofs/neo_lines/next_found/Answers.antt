use Rattle.seg_lines.proofs.Batches.{none-behind}
use Rattle.seg_lines.proofs.neo_lines.next_found.Goals as goal

pub returns-in-None-clause-none : goal.returns-in-None-clause-none
returns-in-None-clause-none g c = none-behind _ _ _ _ c.next_behind.ensures
