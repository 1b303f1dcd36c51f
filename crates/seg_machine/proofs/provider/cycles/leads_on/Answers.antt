use Rattle.std.proofs.Common.{sym}
use Rattle.seg_machine.specs.Search.{bare}
use Rattle.seg_machine.proofs.Transitions.{leads-to}
use Rattle.seg_machine.proofs.Walks.{steps-end, steps-next, steps-all}
use Rattle.seg_machine.proofs.provider.cycles.leads_on.Goals as goal

pub returns-in_default : goal.returns-in_default
returns-in_default c =
    steps-end (bare c.args.states.now c.args.transitions.now) _ _ _ _ (sym c.in_default.ensures.value) c.loop-step-test.true c.loop-step.invariant.same

pub loop-step-preserved : goal.loop-step-preserved
loop-step-preserved c =
    let m = bare c.args.states.now c.args.transitions.now in
    let leads = sym c.in-Some.ensures.value in
    record {
      here = leads-to m c.loop-step.current 0 c.in-Some.next leads (c.requires.bounded.in_range c.loop-step.current 0 c.loop-step.invariant.here c.requires.bounded.some_symbol);
      same = steps-next m _ _ _ _ _ leads c.loop-step-test.true c.loop-step.invariant.same;
    }

pub returns : goal.returns
returns c = steps-all (bare c.args.states.now c.args.transitions.now) _ _ _ _ c.loop-step-test.false c.loop-step.invariant.same
