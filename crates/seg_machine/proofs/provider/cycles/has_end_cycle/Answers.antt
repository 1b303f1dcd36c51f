use Rattle.std.proofs.Common.{refl, sym, ◌∙◌, arith}
use Rattle.std.proofs.lemmas.Bool.{false≢true}
use Rattle.seg_machine.specs.Search.{bare}
use Rattle.seg_machine.proofs.Walks.{cycle-from, cycle-none}
use Rattle.seg_machine.proofs.provider.cycles.has_end_cycle.Goals as goal

pub returns-then-leads_on : goal.returns-then-leads_on
returns-then-leads_on c = (
  λ on. cycle-from (bare c.args.states.now c.args.transitions.now) c.loop-state.state
      (λ q here. c.requires.bounded.in_range q 0 here c.requires.bounded.some_symbol) c.loop-state-test.true
      (sym c.leads_on.ensures ∙ c.if-leads_on.true),
  λ has. refl,
)

pub returns : goal.returns
returns c = (
  λ on. absurd (false≢true on),
  λ has. absurd (cycle-none (bare c.args.states.now c.args.transitions.now) (λ q here. c.loop-state.invariant q (omega arith)) has),
)
