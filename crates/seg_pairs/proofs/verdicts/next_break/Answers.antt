use Rattle.std.proofs.Common.{◌∙◌}
use Rattle.seg_pairs.proofs.Chains.{on_chain-go}
use Rattle.seg_pairs.proofs.Landings.{goes-from, walk-lands, ends-break, ends-end, ends-run}
use Rattle.seg_pairs.proofs.verdicts.next_break.Goals as goal

pub loop-next-smaller-in-Go : goal.loop-next-smaller-in-Go
loop-next-smaller-in-Go g c = (goes-from (g.R.Verdicts.verdict c.args.rules.now) _ _ _ _ c.facts.ensures c.in-Go.ensures.lands).fewer

pub loop-next-preserved-in-Go : goal.loop-next-preserved-in-Go
loop-next-preserved-in-Go g c =
    let goes = goes-from (g.R.Verdicts.verdict c.args.rules.now) _ _ _ _ c.facts.ensures c.in-Go.ensures.lands in
    record {
      on = on_chain-go (g.R.Verdicts.verdict c.args.rules.now) _ _ _ _ _ _ c.facts.ensures c.loop-next.invariant.on goes.goes goes.here;
      class = c.in-Go.ensures.class;
      end = c.in-Go.ensures.end ∙ c.loop-next.invariant.end;
      table = c.in-Go.ensures.table ∙ c.loop-next.invariant.table;
    }

pub returns-in-Break : goal.returns-in-Break
returns-in-Break g c = record {
  ends = ends-break (g.R.Verdicts.verdict c.args.rules.now) _ _ _ c.facts.ensures c.loop-next.invariant.on _ _ _ c.in-Break.ensures.lands;
  class = c.in-Break.ensures.class;
  end = c.in-Break.ensures.end ∙ c.loop-next.invariant.end;
  table = c.in-Break.ensures.table ∙ c.loop-next.invariant.table;
}

pub returns-in-End : goal.returns-in-End
returns-in-End g c = record {
  ends = ends-end (g.R.Verdicts.verdict c.args.rules.now) _ _ _ c.facts.ensures c.loop-next.invariant.on _ _ c.in-End.ensures.lands;
  class = tt;
  end = c.in-End.ensures.end ∙ c.loop-next.invariant.end;
  table = c.in-End.ensures.table ∙ c.loop-next.invariant.table;
}

pub returns-in-Run : goal.returns-in-Run
returns-in-Run g c = record {
  ends = ends-run (g.R.Verdicts.verdict c.args.rules.now) _ _ _ c.facts.ensures c.loop-next.invariant.on _ _ c.in-Run.ensures.lands;
  class = (c.loop-next.invariant.class, c.in-Run.ensures.class);
  end = c.in-Run.ensures.end ∙ c.loop-next.invariant.end;
  table = c.in-Run.ensures.table ∙ c.loop-next.invariant.table;
}

-- after a walk

pub loop-next-smaller : goal.loop-next-smaller
loop-next-smaller g c =
    (goes-from (g.R.Verdicts.verdict c.args.rules.now) _ _ _ _ c.facts.ensures
    (walk-lands (λ elements state. g.R.Verdicts.walk_verdict c.args.rules.now state c.loop-next.left elements) _ _ _ _ _ _ _ _ c.in-Walk.ensures.lands c.in-Go-walk_step.ensures.lands)).fewer

pub loop-next-preserved : goal.loop-next-preserved
loop-next-preserved g c =
    let goes = goes-from (g.R.Verdicts.verdict c.args.rules.now) _ _ _ _ c.facts.ensures
    (walk-lands (λ elements state. g.R.Verdicts.walk_verdict c.args.rules.now state c.loop-next.left elements) _ _ _ _ _ _ _ _ c.in-Walk.ensures.lands c.in-Go-walk_step.ensures.lands) in
    record {
      on = rw c.rebuilt-left-in-Go-walk_step.ensures (on_chain-go (g.R.Verdicts.verdict c.args.rules.now) _ _ _ _ _ _ c.facts.ensures c.loop-next.invariant.on goes.goes goes.here);
      class = rw c.rebuilt-left-in-Go-walk_step.ensures c.in-Go-walk_step.ensures.class;
      end = c.in-Go-walk_step.ensures.end ∙ c.in-Walk.ensures.end ∙ c.loop-next.invariant.end;
      table = c.in-Go-walk_step.ensures.table ∙ c.in-Walk.ensures.table ∙ c.loop-next.invariant.table;
    }

pub returns-in-Break-walk_step-clause-ends : goal.returns-in-Break-walk_step-clause-ends
returns-in-Break-walk_step-clause-ends g c =
    rw c.rebuilt.ensures
    (ends-break (g.R.Verdicts.verdict c.args.rules.now) _ _ _ c.facts.ensures c.loop-next.invariant.on _ _ _
    (walk-lands (λ elements state. g.R.Verdicts.walk_verdict c.args.rules.now state c.loop-next.left elements) _ _ _ _ _ _ _ _ c.in-Walk.ensures.lands c.in-Break-walk_step.ensures.lands))

pub returns-in-End-walk_step-clause-ends : goal.returns-in-End-walk_step-clause-ends
returns-in-End-walk_step-clause-ends g c =
    ends-end (g.R.Verdicts.verdict c.args.rules.now) _ _ _ c.facts.ensures c.loop-next.invariant.on _ _
    (walk-lands (λ elements state. g.R.Verdicts.walk_verdict c.args.rules.now state c.loop-next.left elements) _ _ _ _ _ _ _ _ c.in-Walk.ensures.lands c.in-End-walk_step.ensures.lands)

pub returns-in-Run-walk_step-clause-ends : goal.returns-in-Run-walk_step-clause-ends
returns-in-Run-walk_step-clause-ends g c =
    ends-run (g.R.Verdicts.verdict c.args.rules.now) _ _ _ c.facts.ensures c.loop-next.invariant.on _ _
    (walk-lands (λ elements state. g.R.Verdicts.walk_verdict c.args.rules.now state c.loop-next.left elements) _ _ _ _ _ _ _ _ c.in-Walk.ensures.lands c.in-Run-walk_step.ensures.lands)
