use Rattle.seg_clusters.proofs.ByRules.{table-covers, machine-covers}
use Rattle.seg_clusters.proofs.laws.engine.cover.Goals as goal

pub returns-in-Neo : goal.returns-in-Neo
returns-in-Neo c = rw c.in-Neo.is (λ code_points. machine-covers _ c.facts.ensures code_points)

pub returns-in_default : goal.returns-in_default
returns-in_default c = rw c.in_default.is (λ code_points. table-covers _ _ code_points)
