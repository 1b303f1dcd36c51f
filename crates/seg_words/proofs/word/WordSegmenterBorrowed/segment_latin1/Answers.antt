use Rattle.seg_text.proofs.Covers.{cover-latin1}
use Rattle.seg_words.proofs.word.WordSegmenterBorrowed.segment_latin1.Goals as goal

pub returns-clause-cover : goal.returns-clause-cover
returns-clause-cover c = cover-latin1 _ _ (rw c.new.ensures at c.segment.ensures.cover)
