use Rattle.seg_clusters.specs.Scripts.{at_end}
use Rattle.seg_clusters.proofs.Cutting.{runs-covered, at_end-covers}
use Rattle.seg_clusters.proofs.laws.complex.cuts_cover_runs.Goals as goal

pub returns-clause-at_end : goal.returns-clause-at_end
returns-clause-at_end c = runs-covered at_end at_end-covers

pub returns-clause-any : goal.returns-clause-any
returns-clause-any c = runs-covered
