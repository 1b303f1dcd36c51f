use Rattle.std.proofs.Common.{refl, sym, arith}
use Rattle.seg_machine.specs.Search.{bare}
use Rattle.seg_machine.proofs.Transitions.{leads-to, place-of, step-none, step-some}
use Rattle.seg_machine.proofs.provider.transitions.next_of.Goals as goal

pub overflow_mul-next : goal.overflow_mul-next
overflow_mul-next c =
    let place = place-of (bare c.args.states.now c.args.transitions.now) c.args.state c.args.symbol c.requires.state c.requires.symbol in
    omega arith

pub overflow_add-next : goal.overflow_add-next
overflow_add-next c =
    let place = place-of (bare c.args.states.now c.args.transitions.now) c.args.state c.args.symbol c.requires.state c.requires.symbol in
    omega arith

pub bounds-transitions-state : goal.bounds-transitions-state
bounds-transitions-state c = place-of (bare c.args.states.now c.args.transitions.now) c.args.state c.args.symbol c.requires.state c.requires.symbol

pub returns-then-next-clause-value : goal.returns-then-next-clause-value
returns-then-next-clause-value c =
    sym (step-none (bare c.args.states.now c.args.transitions.now) c.args.state c.args.symbol _ refl c.if-next.true)

pub returns-else-next-clause-value : goal.returns-else-next-clause-value
returns-else-next-clause-value c =
    sym (step-some (bare c.args.states.now c.args.transitions.now) c.args.state c.args.symbol _ refl c.if-next.false)

pub returns-else-next-clause-state : goal.returns-else-next-clause-state
returns-else-next-clause-state c =
    let m = bare c.args.states.now c.args.transitions.now in
    leads-to m c.args.state c.args.symbol _ (step-some m c.args.state c.args.symbol _ refl c.if-next.false)
    (c.requires.bounded.in_range c.args.state c.args.symbol c.requires.state c.requires.symbol)
