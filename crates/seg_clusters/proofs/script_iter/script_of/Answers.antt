use Rattle.std.proofs.Common.{sym}
use Rattle.seg_clusters.proofs.Rows.{ideograph-is-chinese, letter-is-thai, sign-is-thai}
use Rattle.seg_clusters.proofs.script_iter.script_of.Goals as goal

pub returns-then-code_point-le40959 : goal.returns-then-code_point-le40959
returns-then-code_point-le40959 c = sym (ideograph-is-chinese c.args.code_point c.if-code_point-ge19968.true c.if-code_point-le40959.true)

pub returns-then-code_point-le3642 : goal.returns-then-code_point-le3642
returns-then-code_point-le3642 c = sym (letter-is-thai c.args.code_point c.if-code_point-ge3585.true c.if-code_point-le3642.true)

pub returns-then-code_point-le3662 : goal.returns-then-code_point-le3662
returns-then-code_point-le3662 c = sym (sign-is-thai c.args.code_point c.if-code_point-ge3648.true c.if-code_point-le3662.true)
