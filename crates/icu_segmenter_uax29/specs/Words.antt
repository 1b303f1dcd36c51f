-- The machine of words, of just the arrays that stand in the code, and the words of UAX #29.
use Rattle.std.specs.Prelude.{ℕ, List, []}
use Rattle.seg_data.specs.Table.{table}
use Rattle.seg_text.specs.declared.boundary.Boundary.{Boundary}
use Rattle.seg_machine.specs.Machine.{Machine, machine}
use Rattle.unicode_segmentation.specs.Segments.{cut}
use Rattle.unicode_segmentation.specs.Word.{is_word_break}
use Rattle.icu_segmenter_uax29.specs.Pieces.{FindsPieces}
use Rattle.icu_segmenter_uax29.specs.declared.words.ranges.TheConstants.{RANGES}
use Rattle.icu_segmenter_uax29.specs.declared.words.states.TheConstants.{STATES}
use Rattle.icu_segmenter_uax29.specs.declared.words.symbols.TheConstants.{OTHER}
use Rattle.icu_segmenter_uax29.specs.declared.words.transitions.TheConstants.{TRANSITIONS}

unfoldable pub word_machine : Machine
word_machine = machine (table RANGES OTHER) STATES TRANSITIONS 0 255 []

-- the words of some code points, by the rules WB1 to WB999 of UAX #29
abbrev pub words : List ℕ → List (List ℕ)
words code_points = cut is_word_break [] code_points []

-- what finds boundaries finds the words of UAX #29, by WB1 to WB999
abbrev pub FindsWords : (List ℕ → List Boundary) → Type 0
FindsWords find = FindsPieces is_word_break find
