-- The machine of extended grapheme clusters, of just the arrays that stand in the code, and the clusters of UAX #29.
use Rattle.std.specs.Prelude.{ℕ, true, List, []}
use Rattle.seg_data.specs.Table.{table}
use Rattle.seg_text.specs.declared.boundary.Boundary.{Boundary}
use Rattle.seg_machine.specs.Machine.{Machine, machine}
use Rattle.unicode_segmentation.specs.Grapheme.{is_grapheme_break}
use Rattle.unicode_segmentation.specs.Segments.{cut}
use Rattle.icu_segmenter_uax29.specs.Pieces.{FindsPieces}
use Rattle.icu_segmenter_uax29.specs.declared.ranges.TheConstants.{RANGES}
use Rattle.icu_segmenter_uax29.specs.declared.states.TheConstants.{STATES}
use Rattle.icu_segmenter_uax29.specs.declared.symbols.TheConstants.{OTHER}
use Rattle.icu_segmenter_uax29.specs.declared.transitions.TheConstants.{TRANSITIONS}

unfoldable pub cluster_machine : Machine
cluster_machine = machine (table RANGES OTHER) STATES TRANSITIONS 0 255 []

-- the extended grapheme clusters of some code points, by the rules GB1 to GB999 of UAX #29
abbrev pub clusters : List ℕ → List (List ℕ)
clusters code_points = cut (is_grapheme_break true) [] code_points []

-- what finds boundaries finds the extended grapheme clusters of UAX #29, by GB1 to GB999
abbrev pub FindsClusters : (List ℕ → List Boundary) → Type 0
FindsClusters find = FindsPieces (is_grapheme_break true) find
