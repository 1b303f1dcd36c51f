use Rattle.seg_rows.proofs.Filling.{first-put, first-behind}
use Rattle.seg_rows.proofs.buffers.put_first.Goals as goal

pub returns-clause-written : goal.returns-clause-written
returns-clause-written g c = rw c.if-started.false (first-put c.args.into.now c.args.first c.requires)

pub returns-clause-later : goal.returns-clause-later
returns-clause-later g c = first-behind c.args.into.now c.args.first
