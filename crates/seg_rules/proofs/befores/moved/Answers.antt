use Rattle.std.proofs.Common.{arith}
use Rattle.seg_rules.proofs.Moves.{moves-step, moves-none}
use Rattle.seg_rules.proofs.befores.moved.Goals as goal

pub loop-i-preserved : goal.loop-i-preserved
loop-i-preserved c = λ rest.
    c.loop-i.invariant
    (moves-step c.args.rows.now c.args.from.now c.args.symbol c.args.to.now c.loop-i.i _ (omega arith) (omega arith) (omega arith) (c.leads.ensures c.if-not-leads.false) rest)

pub returns : goal.returns
returns c = λ yes. c.loop-i.invariant (moves-none c.args.rows.now c.args.from.now c.args.symbol c.args.to.now c.loop-i.i (omega arith) (omega arith) (omega arith))
