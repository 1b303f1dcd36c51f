use Rattle.seg_machine.proofs.Bare.{checked-tailored}
use Rattle.seg_machine.proofs.tailored_machine.TailoredMachineBorrowed.facts.Goals as goal

pub returns : goal.returns
returns c = checked-tailored _ _ c.facts.ensures c.args.self.now.text_symbols
