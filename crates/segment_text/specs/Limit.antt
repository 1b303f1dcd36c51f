-- Lines up to a limit.
use Rattle.std.specs.Prelude.{ℕ, ◌-◌, ◌==◌, max, get_or, List, [], ◌++◌, length, take, if◌then◌else◌}
use Rattle.std.specs.Str.{trim_start}
use Rattle.segment_text.specs.Lines.{ended_lines, lines_in}

-- how many lines there may be: one at least
abbrev pub most_lines : ℕ → ℕ
most_lines lines = max lines 1

-- the last line that there may be of a text, and those before it
abbrev pub last_line : ℕ → List ℕ → List ℕ
last_line lines text = get_or (lines_in text) (most_lines lines - 1) []

abbrev pub lines_before : ℕ → List ℕ → List ℕ
lines_before lines text = ended_lines (take (most_lines lines - 1) (lines_in text))

-- a placeholder behind some bytes; where there are none, without the white space at its start
abbrev pub placed_behind : List ℕ → List ℕ → List ℕ
placed_behind kept placeholder = if length kept == 0 then trim_start placeholder else kept ++ placeholder
