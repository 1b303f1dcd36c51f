use Rattle.std.proofs.Common.{ap, ◌∙◌}
use Rattle.seg_rules.specs.Given.{tables_of}
use Rattle.seg_rules.specs.Planned.{read_at}
use Rattle.seg_rules.proofs.relation.owed_after.Goals as goal

pub returns : goal.returns
returns c = λ rules n small.
    let t = tables_of rules n c.args.certificate.now in
    let doubt = c.read_number.ensures rules n small in
    let older = c.read_number-2.ensures rules n small in
    let newest = c.read_number-3.ensures rules n small ∙ ap (λ number. read_at t number c.args.glues c.args.symbol) (c.newest.ensures rules n) in
    λ i. record { doubt = doubt i; older = older i; newest = newest i }
