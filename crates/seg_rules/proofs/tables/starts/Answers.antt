use Rattle.std.proofs.Common.{◌<◌, length, arith, sym, ◌∙◌}
use Rattle.std.proofs.lemmas.Bool.{eqb-false}
use Rattle.seg_rules.specs.Check.{no_before}
use Rattle.seg_rules.specs.Given.{before_of, rules_of}
use Rattle.seg_rules.proofs.Claims.{get-mapped}
use Rattle.seg_rules.proofs.tables.starts.Goals as goal

pub returns : goal.returns
returns c = λ yes.
    let apart = eqb-false _ _ (sym c.is_empty.ensures ∙ c.if-is_empty.false) in
    let some : 0 < length c.args.befores.now = omega (arith, apart) in
    (some, c.is_start.ensures yes ∙ get-mapped (before_of (rules_of c.args.rules.now)) no_before c.args.befores.now 0 _ some)
