use Rattle.icu_segmenter.specs.Clusters.{owned_cluster_rules}
use Rattle.icu_segmenter_uax29.specs.Clusters.{FindsClusters, cluster_machine}
use Rattle.icu_segmenter_data.proofs.Found.{found-always}
use Rattle.icu_segmenter_data.proofs.segmenters.clusters_by_scans.Goals as goal

pub returns-clause-clusters : goal.returns-clause-clusters
returns-clause-clusters c =
    found-always owned_cluster_rules cluster_machine FindsClusters c.clusters_are_uax29.ensures.clusters c.try_new_neo.result c.in_ok-cluster_machine.field-0
    c.in_ok-cluster_machine.ensures.made c.try_new_neo.ensures
