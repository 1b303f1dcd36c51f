use Rattle.std.proofs.Common.{arith, rules, sym}
use Rattle.seg_balance.proofs.Core.{cost-at-end, cost-by, cost-must}
use Rattle.seg_balance.proofs.balance.cost_of.Goals.{then-count-segments-via-then-count-segments, then-count-segments-via-else-count-segments+then-segments-count}
use Rattle.seg_balance.proofs.balance.cost_of.Goals as goal

pub returns-then-count-segments-clause-value : goal.returns-then-count-segments-clause-value
returns-then-count-segments-clause-value c = elim c.then-count-segments.branch [
  | then-count-segments-via-then-count-segments w ↦ sym (cost-at-end c.args.columns c.args.segments.now c.args.count (omega (arith, w.if-count-segments.true)))
  | then-count-segments-via-else-count-segments+then-segments-count w ↦
      sym (cost-must c.args.columns c.args.segments.now c.args.count _ c.requires.some c.requires.within w.if-segments-count.true)
]

pub returns-clause-value : goal.returns-clause-value
returns-clause-value c =
    cost-by c.args.columns c.args.segments.now c.args.count c.args.width _ _ c.requires.some c.requires.within c.requires.width c.square_free.ensures.value (search rules) c.if-segments-count.false
