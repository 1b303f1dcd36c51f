use Rattle.std.proofs.Common.{◌≡◌, true, subst, below_more}
use Rattle.seg_rules.specs.declared.certificate.Before.{Before}
use Rattle.seg_rules.specs.Planned.{Begins, begins_in, relation_of}
use Rattle.seg_rules.proofs.Claims.{get-mapped}
use Rattle.seg_rules.proofs.relation.each_begins.Goals as goal

pub loop-i-preserved : goal.loop-i-preserved
loop-i-preserved c =
    let certificate = c.args.certificate.now in
    below_more (Begins certificate) c.loop-i.i c.loop-i.invariant
    (subst (λ owes. begins_in (relation_of certificate) c.loop-i.i owes ≡ true) (get-mapped (λ (b : Before). b.owes) 0 certificate.befores.now c.loop-i.i _ c.loop-i-test.true)
    (c.may_begin.ensures c.if-not-may_begin.false))
