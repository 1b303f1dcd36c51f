use Rattle.std.proofs.Common.{ap}
use Rattle.seg_rules.specs.RowRules.{Before}
use Rattle.seg_rules.specs.Check.{no_before}
use Rattle.seg_rules.specs.Given.{before_of}
use Rattle.seg_rules.proofs.Claims.{get-mapped, get-mapped-past}
use Rattle.seg_rules.proofs.relation.glues.Goals as goal

pub returns-then-c-certificate : goal.returns-then-c-certificate
returns-then-c-certificate c = λ rules n.
    ap (λ (b : Before). b.glues) (get-mapped-past (before_of rules) no_before c.args.certificate.now.befores.now c.args.c.before c.if-c-certificate.true)

pub returns : goal.returns
returns c = λ rules n.
    ap (λ (b : Before). b.glues) (get-mapped (before_of rules) no_before c.args.certificate.now.befores.now c.args.c.before _ c.if-c-certificate.false)
