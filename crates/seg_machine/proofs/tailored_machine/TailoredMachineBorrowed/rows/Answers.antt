use Rattle.seg_data.proofs.Options.{if-for}
use Rattle.seg_machine.proofs.tailored_machine.TailoredMachineBorrowed.rows.Goals as goal

pub returns : goal.returns
returns c = if-for c.args.self.now.rows _ c.args.self.now.rows_stand
