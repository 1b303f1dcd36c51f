use Rattle.std.proofs.Common.{◌∙◌}
use Rattle.seg_machine.proofs.Bare.{count-tailored, step-tailored}
use Rattle.seg_machine.proofs.tailored_machine.TailoredMachineBorrowed.next_state.Goals as goal

pub next_state-requires-clause-symbol : goal.next_state-requires-clause-symbol
next_state-requires-clause-symbol c = count-tailored _ _ _ c.requires.symbol

pub returns-clause-value : goal.returns-clause-value
returns-clause-value c = c.next_state.ensures.value ∙ step-tailored _ _ _ _
