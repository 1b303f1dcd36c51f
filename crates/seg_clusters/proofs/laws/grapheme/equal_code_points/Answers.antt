use Rattle.seg_text.proofs.Stretches.{same-counted}
use Rattle.seg_text.specs.Decoding.{utf8, utf16}
use Rattle.seg_clusters.specs.Clusters.{cluster_rules}
use Rattle.seg_clusters.specs.Rules.{boundaries_by}
use Rattle.seg_clusters.proofs.laws.grapheme.equal_code_points.Goals as goal

pub returns-clause-equal : goal.returns-clause-equal
returns-clause-equal c =
    rw (c.segment_utf8.ensures.boundaries, c.segment_utf16.ensures.boundaries)
    (same-counted (boundaries_by (cluster_rules c.args.segmenter)) (utf8 c.args.one.now) (utf16 c.args.other.now))
