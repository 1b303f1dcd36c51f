use Rattle.std.proofs.Common.{true}
use Rattle.unicode_segmentation.specs.Grapheme.{is_grapheme_break}
use Rattle.seg_machine.specs.Pick.{machine_boundaries}
use Rattle.icu_segmenter_uax29.specs.Clusters.{cluster_machine}
use Rattle.icu_segmenter_uax29.proofs.Boundaries.{boundaries-break, breaks-bound}
use Rattle.icu_segmenter_uax29.proofs.ClusterPlaces.{clusters-are, rule-ends}
use Rattle.icu_segmenter_uax29.proofs.Segments.{finds-pieces}
use Rattle.icu_segmenter_uax29.proofs.laws.clusters_are_uax29.Goals as goal

pub returns-clause-clusters : goal.returns-clause-clusters
returns-clause-clusters c = finds-pieces (is_grapheme_break true) (machine_boundaries cluster_machine) clusters-are

pub returns-clause-places : goal.returns-clause-places
returns-clause-places c before after = (
  boundaries-break (is_grapheme_break true) cluster_machine rule-ends clusters-are before after,
  breaks-bound (is_grapheme_break true) cluster_machine rule-ends clusters-are before after,
)
