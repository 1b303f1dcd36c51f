use Rattle.std.proofs.Common.{◌≡◌, true, List, [], subst}
use denote.Bor.{Bor}
use Rattle.seg_rules.specs.declared.certificate.Configuration.{Configuration}
use Rattle.seg_rules.specs.Check.{among}
use Rattle.seg_rules.proofs.Claims.{get-mapped}
use Rattle.seg_rules.proofs.relation.is_known.Goals as goal

pub returns-then-state-relation : goal.returns-then-state-relation
returns-then-state-relation c = λ yes.
    subst (λ group. among c.args.c group ≡ true)
    (get-mapped (λ (group : Bor (List Configuration)). group.now) [] c.args.relation.now c.args.state _ c.if-state-relation.true) (c.is_among.ensures yes)
