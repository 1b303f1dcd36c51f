use Rattle.std.proofs.Common.{◌∙◌}
use Rattle.seg_machine.proofs.Bare.{step-plain}
use Rattle.seg_machine.proofs.Machines.{bounded-checked, count-plain}
use Rattle.seg_machine.proofs.provider.machine.SegmenterStateMachine.next_state.Goals as goal

pub next_of-requires-clause-bounded : goal.next_of-requires-clause-bounded
next_of-requires-clause-bounded c = rw (c.states.ensures, c.transitions.ensures) (bounded-checked c.args.self.now c.facts.ensures)

pub next_of-requires-clause-symbol : goal.next_of-requires-clause-symbol
next_of-requires-clause-symbol c = rw (c.states.ensures, c.transitions.ensures) (count-plain c.args.self.now c.args.symbol c.requires.symbol)

pub returns-clause-value : goal.returns-clause-value
returns-clause-value c =
    (rw (c.states.ensures, c.transitions.ensures) at c.next_of.ensures.value) ∙ step-plain c.args.self.now c.args.state c.args.symbol
