-- The lines of a text.
use Rattle.std.specs.Prelude.{ℕ, zero, suc, ◌+◌, ◌-◌, ◌≤◌, ◌==◌, Bool, List, chars, count_by, length}
use Rattle.std.specs.List.{before_first, after_first}

-- how many lines a text of these bytes has: one more than it has ends of lines
abbrev pub line_count : List ℕ → ℕ
line_count bytes = count_by (λ byte. byte == 10) bytes + 1

-- a line of a text, by its number from 1 on
abbrev pub IsLineOf : List ℕ → ℕ → Type 0
IsLineOf bytes line = (1 ≤ line) × (line ≤ line_count bytes)

-- a line feed
abbrev pub is_end : ℕ → Bool
is_end character = character == 10

-- what stands behind so many ends of lines
unfoldable pub after_ends : ℕ → List ℕ → List ℕ
after_ends zero characters = characters
after_ends (suc n) characters = after_first is_end (after_ends n characters)

-- the characters of a line, by its number from 1 on
abbrev pub line_at : ℕ → List ℕ → List ℕ
line_at line characters = before_first is_end (after_ends (line - 1) characters)

-- a column of a line, from 1 on: where one of its characters begins, or behind the last
abbrev pub IsColumnOf : List ℕ → ℕ → ℕ → Type 0
IsColumnOf bytes line column = (1 ≤ column) × (column ≤ length (line_at line (chars bytes)) + 1)
