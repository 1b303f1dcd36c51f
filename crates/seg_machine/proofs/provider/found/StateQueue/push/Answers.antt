use Rattle.std.proofs.Common.{arith}
use Rattle.std.proofs.lemmas.List.Elements.{Contains-push}
use Rattle.seg_machine.proofs.Tables.{table-push, table-room}
use Rattle.seg_machine.proofs.provider.found.StateQueue.push.Goals as goal

pub push-requires : goal.push-requires
push-requires c = (
  omega arith,
  let room = table-room c.self.inside.known c.self.inside.states.items c.args.state c.self.invariant (omega arith) c.if-not-self-state.true in omega arith,
)

pub invariant_of-self : goal.invariant_of-self
invariant_of-self c =
    rw c.push.ensures.items (table-push c.self.inside.known c.self.inside.states.items c.args.state c.self.invariant (omega arith) c.if-not-self-state.true)

pub returns-then-not-self-state-clause-listed : goal.returns-then-not-self-state-clause-listed
returns-then-not-self-state-clause-listed c = rw c.push.ensures.items (Contains-push c.self.inside.states.items c.args.state)
