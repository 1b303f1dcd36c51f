use Rattle.std.proofs.Common.{◌∙◌}
use Rattle.seg_rules.proofs.Numbers.{read-verdict, read-none, read-due}
use Rattle.seg_rules.proofs.relation.read_number.Goals as goal

pub returns-then-number-lt-VERDICTS : goal.returns-then-number-lt-VERDICTS
returns-then-number-lt-VERDICTS c = λ rules n small. read-verdict rules n c.args.certificate.now c.args.number c.args.glues c.args.symbol c.if-number-lt-VERDICTS.true small

pub returns-then-index-certificate : goal.returns-then-index-certificate
returns-then-index-certificate c = λ rules n small.
    read-none rules n c.args.certificate.now c.args.number c.args.glues c.args.symbol c.if-number-lt-VERDICTS.false c.if-index-certificate.true

pub returns : goal.returns
returns c = λ rules n small.
    c.read_pair.ensures ∙ read-due rules n c.args.certificate.now c.args.number c.args.glues c.args.symbol _ c.if-number-lt-VERDICTS.false c.if-index-certificate.false
