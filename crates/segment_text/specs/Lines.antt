-- Lines of a text.
use Rattle.std.specs.Prelude.{ℕ, ◌==◌, Bool, List, ◌++◌}
use Rattle.std.specs.List.{flat_map, slice_split}
use Rattle.icu_segmenter.specs.NearBoundaries.{line_feed}

abbrev pub is_line_feed : ℕ → Bool
is_line_feed byte = byte == 0x0A

-- the lines of a text: what stands before its first line feed, between each two, and behind the last
abbrev pub lines_in : List ℕ → List (List ℕ)
lines_in bytes = slice_split is_line_feed bytes

-- lines, each with a line feed
abbrev pub ended_lines : List (List ℕ) → List ℕ
ended_lines lines = flat_map (λ line. line ++ line_feed) lines
