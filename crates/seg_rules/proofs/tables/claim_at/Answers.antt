use Rattle.std.proofs.Common.{◌<◌, ◌-◌, length, arith, sym, ◌∙◌, le-ltb}
use Rattle.std.proofs.lemmas.Bool.{cond-false}
use Rattle.seg_rules.specs.Check.{no_due}
use Rattle.seg_rules.specs.Given.{due_by}
use Rattle.seg_rules.proofs.Claims.{get-mapped}
use Rattle.seg_rules.proofs.tables.claim_at.Goals as goal

pub returns : goal.returns
returns c = λ rules.
    let within : c.args.number - 3 < length c.args.dues.now = omega arith in
    get-mapped (due_by rules) no_due c.args.dues.now (c.args.number - 3) _ within ∙ sym (cond-false _ _ _ (le-ltb _ _ c.if-number-lt-VERDICTS.false))
