-- The segments that iterators have still to give.
use Rattle.std.specs.Prelude.{ℕ, List}
use Rattle.seg_words.specs.declared.word.WordType.{WordType}
use Rattle.seg_segments.specs.declared.segments.SegmentIndices.{SegmentIndices}
use Rattle.seg_segments.specs.declared.segments.Segments.{Segments}
use Rattle.seg_segments.specs.declared.segments.Words.{Words}
use Rattle.seg_segments.specs.TextSegments.{Segment, indices_of, units_of, words_of}

abbrev pub segments_left : {B U M : Type 0} → Segments B U M → List (List ℕ)
segments_left iterator = units_of iterator.segments

abbrev pub indices_left : {B U M : Type 0} → SegmentIndices B U M → List (ℕ × List ℕ)
indices_left iterator = indices_of iterator.segments

abbrev pub words_left : {B U : Type 0} → Words B U → List (Segment WordType)
words_left iterator = words_of iterator.segments
