-- Wrapped lines as they are printed: each without its trailing white space, and a line feed.
use Rattle.std.specs.Prelude.{ℕ, ◌-◌, List, [], ◌∷◌, ◌++◌, length, take}
use Rattle.std.specs.List.{flat_map, suffix_len}
use Rattle.icu_segmenter.specs.Wrapping.{TextLine, is_trailing_space}

-- the bytes of a line without its trailing white space
abbrev pub without_trailing_space : List ℕ → List ℕ
without_trailing_space bytes = take (length bytes - suffix_len is_trailing_space bytes) bytes

abbrev pub printed_line : List ℕ → List ℕ
printed_line bytes = without_trailing_space bytes ++ 10 ∷ []

abbrev pub printed_lines : List TextLine → List ℕ
printed_lines lines = flat_map (λ line. printed_line line.units) lines
