use Rattle.seg_machine.specs.Machine.{state_at}
use Rattle.seg_machine.proofs.provider.machine.SegmenterStateMachine.mark.Goals as goal

pub returns : goal.returns
unfolding state_at
returns c = rw (← c.self.view_is) (c.self.invariant.1 c.args.state (rw (← c.self.view_is) at c.requires))
