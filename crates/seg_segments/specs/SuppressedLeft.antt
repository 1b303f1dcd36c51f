-- What is seen of the boundaries that abbreviations leave.
use Rattle.std.specs.Prelude.{ℕ, List}
use Rattle.seg_text.specs.declared.boundary.Boundary.{Boundary}
use Rattle.seg_text.specs.Boundaries.{offsets}
use Rattle.seg_data.specs.WordSets.{Words}
use Rattle.seg_data.specs.ScriptWords.{words_after}
use Rattle.seg_segments.specs.declared.suppress.SuppressedBreaks.{SuppressedBreaks}

-- the boundaries that are still to come, and their places
abbrev pub suppressed_left : {B I U M : Type 0} → SuppressedBreaks B I U M → List Boundary
suppressed_left breaks = breaks.kept

abbrev pub suppressed_places : {B I U M : Type 0} → SuppressedBreaks B I U M → List ℕ
suppressed_places breaks = offsets (suppressed_left breaks)

-- the abbreviations, and all boundaries of the sentences
abbrev pub suppressed_words : {B I U M : Type 0} → SuppressedBreaks B I U M → Words
suppressed_words breaks = words_after breaks.words

abbrev pub suppressed_source : {B I U M : Type 0} → SuppressedBreaks B I U M → B
suppressed_source breaks = breaks.source
