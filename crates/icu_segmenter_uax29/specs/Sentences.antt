-- The machine of sentences, of just the arrays that stand in the code, and the sentences of UAX #29.
use Rattle.std.specs.Prelude.{ℕ, List, []}
use Rattle.seg_data.specs.Table.{table}
use Rattle.seg_text.specs.declared.boundary.Boundary.{Boundary}
use Rattle.seg_machine.specs.Machine.{Machine, machine}
use Rattle.unicode_segmentation.specs.Segments.{cut}
use Rattle.unicode_segmentation.specs.Sentence.{is_sentence_break}
use Rattle.icu_segmenter_uax29.specs.Pieces.{FindsPieces}
use Rattle.icu_segmenter_uax29.specs.declared.sentences.ranges.TheConstants.{RANGES}
use Rattle.icu_segmenter_uax29.specs.declared.sentences.states.TheConstants.{STATES}
use Rattle.icu_segmenter_uax29.specs.declared.sentences.symbols.TheConstants.{OTHER}
use Rattle.icu_segmenter_uax29.specs.declared.sentences.transitions.TheConstants.{TRANSITIONS}

unfoldable pub sentence_machine : Machine
sentence_machine = machine (table RANGES OTHER) STATES TRANSITIONS 0 255 []

-- the sentences of some code points, by the rules SB1 to SB998 of UAX #29
abbrev pub sentences : List ℕ → List (List ℕ)
sentences code_points = cut is_sentence_break [] code_points []

-- what finds boundaries finds the sentences of UAX #29, by SB1 to SB998
abbrev pub FindsSentences : (List ℕ → List Boundary) → Type 0
FindsSentences find = FindsPieces is_sentence_break find
