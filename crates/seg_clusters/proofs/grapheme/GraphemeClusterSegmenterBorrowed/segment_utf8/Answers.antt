use Rattle.seg_text.proofs.Covers.{cover-utf8}
use Rattle.seg_clusters.proofs.grapheme.GraphemeClusterSegmenterBorrowed.segment_utf8.Goals as goal

pub returns-clause-cover : goal.returns-clause-cover
returns-clause-cover c = cover-utf8 _ _ (rw c.new.ensures at c.segment.ensures.cover)
