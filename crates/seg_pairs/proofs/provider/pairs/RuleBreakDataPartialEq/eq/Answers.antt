use Rattle.std.proofs.Common.{rules, arith}
use Rattle.std.proofs.lemmas.Bool.Decides.{Decides-at}
use Rattle.std.proofs.lemmas.Grind.{common_steps}
use Rattle.seg_pairs.specs.Lemmas.SamePairs.{same_pair_table-decides}
use Rattle.seg_pairs.proofs.provider.pairs.RuleBreakDataPartialEq.eq.Goals as goal

pub returns-then-self-other-4-clause-same : goal.returns-then-self-other-4-clause-same
returns-then-self-other-4-clause-same c = Decides-at _ _ (first_of (search rules, grind (arith, common_steps))) (same_pair_table-decides c.args.self.now c.args.other.now)

pub returns-else-self-other-4-clause-same : goal.returns-else-self-other-4-clause-same
returns-else-self-other-4-clause-same c = Decides-at _ _ (first_of (search rules, grind (arith, common_steps))) (same_pair_table-decides c.args.self.now c.args.other.now)
