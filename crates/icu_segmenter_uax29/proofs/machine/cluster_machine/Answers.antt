use Rattle.icu_segmenter_uax29.specs.Clusters.{cluster_machine}
use Rattle.icu_segmenter_uax29.proofs.ClusterCertificate.{waits}
use Rattle.icu_segmenter_uax29.proofs.Faults.{cluster-is-sound}
use Rattle.icu_segmenter_uax29.proofs.MachineTests.{memory-alone}
use Rattle.icu_segmenter_uax29.proofs.machine.cluster_machine.Goals as goal

pub returns-clause-rejected : goal.returns-clause-rejected
unfolding cluster_machine
returns-clause-rejected c = memory-alone cluster_machine 14 19 waits cluster-is-sound c.machine_of.result c.machine_of.ensures.rejected
