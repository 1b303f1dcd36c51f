use Rattle.std.proofs.Common.{refl, []}
use Rattle.seg_rules.specs.RowRules.{DueOf, owed}
use Rattle.seg_rules.specs.Given.{rules_of}
use Rattle.seg_rules.proofs.Claims.{decided-last}
use Rattle.seg_rules.proofs.dues.owe.Goals as goal

pub returns : goal.returns
unfolding owed
returns c =
    let rules = rules_of c.args.rules.now in
    c.owe_rows.ensures rules _ refl (c.owe_marks-marked.ensures rules _ (c.owe_rows-lower.ensures rules (DueOf [] 0) refl (decided-last rules c.args.claim.now 0)))
