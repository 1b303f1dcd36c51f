-- What is seen of segmenters of sentences that know abbreviations.
use Rattle.std.specs.Prelude.{ℕ, List}
use Rattle.seg_text.specs.declared.boundary.Boundary.{Boundary}
use Rattle.seg_clusters.specs.Clusters.{sentence_rules}
use Rattle.seg_clusters.specs.Rules.{boundaries_by}
use Rattle.seg_segments.specs.Abbreviations.{abbreviations_of}
use Rattle.seg_segments.specs.Suppression.{without_abbreviated}
use Rattle.seg_segments.specs.declared.suppress.segmenter.SuppressingSegmenter.{SuppressingSegmenter}

-- how the boundaries of a list of code points are found
abbrev pub suppressing_finder : SuppressingSegmenter → List ℕ → List Boundary
suppressing_finder segmenter = without_abbreviated (abbreviations_of segmenter.abbreviations.now) (boundaries_by (sentence_rules segmenter.sentences))
