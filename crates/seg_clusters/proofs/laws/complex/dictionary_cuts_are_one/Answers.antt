use Rattle.seg_clusters.specs.Rules.{boundaries_by}
use Rattle.seg_clusters.specs.Clusters.{cluster_rules}
use Rattle.seg_clusters.proofs.WordCuts.{are-cuts, only-cuts}
use Rattle.seg_clusters.proofs.laws.complex.dictionary_cuts_are_one.Goals as goal

pub returns-clause-are : goal.returns-clause-are
returns-clause-are c = λ words piece. are-cuts words (boundaries_by (cluster_rules c.args.clusters)) c.cover.ensures c.restart.ensures piece

pub returns-clause-only : goal.returns-clause-only
returns-clause-only c = λ words piece found are. only-cuts words (boundaries_by (cluster_rules c.args.clusters)) c.cover.ensures c.restart.ensures piece found are
