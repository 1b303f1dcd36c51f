use Rattle.seg_clusters.specs.Clusters.{sentence_rules}
use Rattle.seg_clusters.specs.Rules.{boundaries_by}
use Rattle.seg_segments.specs.Abbreviations.{abbreviations_of}
use Rattle.seg_segments.proofs.Spaceless.{begins-behind}
use Rattle.seg_segments.proofs.suppress.laws.begins_at_certain_places.Goals as goal

pub returns : goal.returns
returns c spaceless space apart none certain =
    begins-behind (abbreviations_of c.args.abbreviations.now) (boundaries_by (sentence_rules c.args.segmenter)) _ _ _ spaceless space apart none c.cover.ensures
    (c.certain_places.ensures.parts certain)
