-- One byte more, a character that is escaped, or the end.
use Rattle.std.proofs.Common.{arith}
use Rattle.segment_text.proofs.Escaping.{escaped-past, escaped-end, rest-is}
use Rattle.segment_text.proofs.escapes.first_escaped.Goals as goal

pub loop-start-preserved : goal.loop-start-preserved
loop-start-preserved c = escaped-past c.args.bytes.now c.loop-start.start c.loop-start.invariant _ (rest-is c.args.bytes.now c.loop-start.start) c.in_default.ensures

pub returns : goal.returns
returns c = escaped-end c.args.bytes.now c.loop-start.start c.loop-start.invariant (omega (arith, c.loop-start-test.false))
