use Rattle.seg_text.proofs.Covers.{cover-utf8}
use Rattle.seg_words.proofs.word.WordSegmenterBorrowed.segment_utf8.Goals as goal

pub returns-clause-cover : goal.returns-clause-cover
returns-clause-cover c = cover-utf8 _ _ (rw c.new.ensures at c.segment.ensures.cover)
