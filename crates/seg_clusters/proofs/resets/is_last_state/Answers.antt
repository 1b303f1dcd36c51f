use Rattle.std.proofs.Common.{length, refl, arith, ap, ◌∙◌}
use Rattle.std.proofs.lemmas.Bool.{false≢true}
use Rattle.seg_machine.specs.Tailored.{machine_of}
use Rattle.seg_clusters.proofs.LastStates.{leads-on, one-more, is-last}
use Rattle.seg_clusters.proofs.resets.is_last_state.Goals as goal

pub returns-then-transitions-state : goal.returns-then-transitions-state
returns-then-transitions-state c = (
  λ is. absurd (false≢true is),
  λ last. absurd (leads-on (machine_of c.args.machine) c.args.state _ _ (ap length (c.states-states.ensures ∙ c.machine.ensures.states)) (c.transitions-transitions.ensures ∙ c.machine-2.ensures.transitions)
      c.loop-symbol.symbol c.loop-symbol-test.true c.if-transitions-state.true last),
)

pub loop-symbol-preserved : goal.loop-symbol-preserved
loop-symbol-preserved c =
    one-more (machine_of c.args.machine) c.args.state _ _ (ap length (c.states-states.ensures ∙ c.machine.ensures.states)) (c.transitions-transitions.ensures ∙ c.machine-2.ensures.transitions)
    c.loop-symbol.symbol c.if-transitions-state.false c.loop-symbol.invariant

pub returns : goal.returns
returns c = (
  λ is. is-last (machine_of c.args.machine) c.args.state _ _ (ap length (c.states-states.ensures ∙ c.machine.ensures.states)) (c.transitions-transitions.ensures ∙ c.machine-2.ensures.transitions)
      c.loop-symbol.symbol (omega (arith, c.loop-symbol-test.false)) c.loop-symbol.invariant,
  λ last. refl,
)
