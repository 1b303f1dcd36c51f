use Rattle.seg_rules.specs.declared.certificate.Before.{Before}
use Rattle.seg_rules.proofs.Claims.{get-mapped, get-mapped-past}
use Rattle.seg_rules.proofs.relation.owes.Goals as goal

pub returns-then-before-befores : goal.returns-then-before-befores
returns-then-before-befores c = get-mapped-past (λ (b : Before). b.owes) 0 c.args.befores.now c.args.before c.if-before-befores.true

pub returns : goal.returns
returns c = get-mapped (λ (b : Before). b.owes) 0 c.args.befores.now c.args.before _ c.if-before-befores.false
