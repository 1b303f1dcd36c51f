use Rattle.std.proofs.Common.{◌<◌, length, subst}
use Rattle.seg_rules.specs.Given.{tables_of}
use Rattle.seg_rules.proofs.relation.is_newest_number.Goals as goal

pub returns : goal.returns
returns c = λ rules n yes.
    let t = tables_of rules n c.args.certificate.now in
    subst (λ number. number < length t.reads) (c.newest.ensures rules n) (c.is_number.ensures rules n yes)
