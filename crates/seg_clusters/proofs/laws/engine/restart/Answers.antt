use Rattle.seg_clusters.proofs.ByRules.{restarts-by}
use Rattle.seg_clusters.proofs.laws.engine.restart.Goals as goal

pub returns : goal.returns
returns c = restarts-by _
