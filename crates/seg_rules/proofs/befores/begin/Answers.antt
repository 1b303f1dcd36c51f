use Rattle.std.proofs.Common.{arith}
use Rattle.seg_rules.proofs.Moves.{begin-step, begin-none}
use Rattle.seg_rules.proofs.befores.begin.Goals as goal

pub loop-i-preserved : goal.loop-i-preserved
loop-i-preserved c = λ rest.
    c.loop-i.invariant (begin-step c.args.rows.now c.args.to.now c.loop-i.i _ (omega arith) (omega arith) (c.begins.ensures c.if-not-begins.false) rest)

pub returns : goal.returns
returns c = λ yes. c.loop-i.invariant (begin-none c.args.rows.now c.args.to.now c.loop-i.i (omega arith) (omega arith))
