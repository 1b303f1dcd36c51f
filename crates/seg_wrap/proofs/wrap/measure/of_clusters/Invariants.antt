use Rattle.seg_clusters.specs.Clusters.{cluster_rules}
use Rattle.seg_wrap.proofs.Clusters.{IsClustering}
use Rattle.seg_wrap.proofs.wrap.measure.of_clusters.Given as goal

abbrev pub invariant-clusters : goal.invariant-clusters
invariant-clusters g l = IsClustering (cluster_rules l.fn.clusters) (g.I.Cursor.text l.fn.text) (g.I.Cursor.text l.text) l.boundaries l.extent
