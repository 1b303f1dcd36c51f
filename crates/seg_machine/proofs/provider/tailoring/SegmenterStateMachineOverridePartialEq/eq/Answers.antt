use Rattle.std.proofs.Common.{rules, arith}
use Rattle.std.proofs.lemmas.Bool.Decides.{Decides-at}
use Rattle.std.proofs.lemmas.Grind.{common_steps}
use Rattle.seg_machine.specs.Lemmas.SameMachines.{same_tailoring-decides}
use Rattle.seg_machine.proofs.provider.tailoring.SegmenterStateMachineOverridePartialEq.eq.Goals as goal

pub returns-then-eq-clause-same : goal.returns-then-eq-clause-same
returns-then-eq-clause-same c = Decides-at _ _ (first_of (search rules, grind (arith, common_steps))) (same_tailoring-decides c.args.self.now c.args.other.now)

pub returns-else-eq-clause-same : goal.returns-else-eq-clause-same
returns-else-eq-clause-same c = Decides-at _ _ (first_of (search rules, grind (arith, common_steps))) (same_tailoring-decides c.args.self.now c.args.other.now)
