use Rattle.std.proofs.Common.{◌<◌, length, sym, arith}
use Rattle.seg_machine.specs.Machine.{IsTextSymbol, symbol_count, state_at}
use Rattle.seg_machine.specs.Search.{bare}
use Rattle.seg_machine.proofs.Searches.{stalls-step, listing-push, listing-stop}
use Rattle.seg_machine.proofs.provider.stalls.follow_pair.Goals as goal
use Rattle.seg_machine.proofs.provider.stalls.follow_pair.Goals.{in-Some-enter_state, in_default-enter_state}

pub next_of-requires-clause-symbol : goal.next_of-requires-clause-symbol
unfolding symbol_count
next_of-requires-clause-symbol c = omega arith

pub returns-in_default-clause-stalls : goal.returns-in_default-clause-stalls
unfolding symbol_count
returns-in_default-clause-stalls c =
    λ stalls. stalls-step (bare c.args.states.now c.args.transitions.now) c.args.state c.args.kept c.loop-symbol.symbol c.requires.pair (omega arith, omega arith) (sym c.in_default.ensures.value)

pub enter_state-requires : goal.enter_state-requires
unfolding state_at
enter_state-requires c = record { named = c.requires.bounded.lookaheads c.in-Some.next }

pub loop-symbol-preserved : goal.loop-symbol-preserved
unfolding symbol_count state_at
loop-symbol-preserved c =
    let m = bare c.args.states.now c.args.transitions.now in
    let text : IsTextSymbol m c.loop-symbol.symbol = (omega arith, omega arith) in
    let leads = sym c.in-Some.ensures.value in
    let within : c.in-Some.next < length c.args.states.now = c.in-Some.ensures.state in
    elim c.match-enter_state.branch [
      | in-Some-enter_state w ↦
          rw (w.marks-is, w.queue-is)
          (listing-push m _ _ _ _ _ _ _ _ _ c.in-Some.next w.in-Some-enter_state.after c.loop-symbol.invariant c.requires.pair text leads within
          (sym w.in-Some-enter_state.ensures.after) w.in-Some-enter_state.ensures.in_range w.in-Some-enter_state.ensures.grows
          w.list_pair.ensures.queue w.list_pair.ensures.more w.list_pair.ensures.marked w.list_pair.ensures.keeps w.list_pair.ensures.only)
      | in_default-enter_state w ↦
          rw (w.marks-is, w.queue-is)
          (listing-stop m _ _ _ _ _ _ _ c.in-Some.next c.loop-symbol.invariant leads (sym w.in_default-enter_state.ensures.after))
    ]

pub returns-clause-followed : goal.returns-clause-followed
unfolding symbol_count
returns-clause-followed c = λ all symbol below above. c.loop-symbol.invariant.followed symbol (omega arith) above
