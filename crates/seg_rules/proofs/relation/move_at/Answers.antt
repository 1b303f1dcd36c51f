use Rattle.std.proofs.Common.{[], arith, sym, ap, ◌∙◌}
use Rattle.seg_rules.specs.declared.certificate.Before.{Before}
use Rattle.seg_rules.specs.Check.{get}
use Rattle.seg_rules.proofs.Claims.{get-mapped, get-mapped-past}
use Rattle.seg_rules.proofs.Numbers.{get-past}
use Rattle.seg_rules.proofs.relation.move_at.Goals as goal

pub returns-then-c-certificate : goal.returns-then-c-certificate
returns-then-c-certificate c = λ rules n.
    sym (get-past 0 [] c.args.j (omega arith))
    ∙ ap (λ moves. get 0 moves c.args.j) (get-mapped-past (λ (b : Before). b.moves.now) [] c.args.certificate.now.befores.now c.args.c.before c.if-c-certificate.true)

pub returns : goal.returns
returns c = λ rules n.
    c.move_of.ensures
    ∙ ap (λ moves. get 0 moves c.args.j) (get-mapped (λ (b : Before). b.moves.now) [] c.args.certificate.now.befores.now c.args.c.before _ c.if-c-certificate.false)
