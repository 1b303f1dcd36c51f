use Rattle.seg_segments.proofs.Parts.{feeds-utf8, feeds-utf16}
use Rattle.seg_segments.proofs.cursor.clusters.GraphemeClusterSegmenterBorrowedBoundaryFinder.parts_behind_line_feeds.Goals as goal

pub returns-clause-utf8 : goal.returns-clause-utf8
returns-clause-utf8 c is = feeds-utf8 _ (c.parts_behind_resets.ensures (c.resets_after.ensures.0 is))

pub returns-clause-utf16 : goal.returns-clause-utf16
returns-clause-utf16 c is = feeds-utf16 _ (c.parts_behind_resets.ensures (c.resets_after.ensures.0 is))
