-- Lines without their trailing white space.
use Rattle.std.specs.Prelude.{ℕ, ◌-◌, ◌==◌, ◌||◌, Bool, List, [], ◌∷◌, ◌++◌, length, take, if◌then◌else◌}
use Rattle.std.specs.Cmp.Lexicographic.{pointwise}
use Rattle.std.specs.List.{suffix_len}
use Rattle.icu_segmenter.specs.Wrapping.{is_trailing_space}

-- the bytes of a line without its trailing white space
abbrev pub without_trailing_space : List ℕ → List ℕ
without_trailing_space bytes = take (length bytes - suffix_len is_trailing_space bytes) bytes

-- the line that parts a signature off (`-- `), which keeps its space
abbrev pub is_signature : List ℕ → Bool
is_signature bytes =
    pointwise (◌==◌) bytes (0x2D ∷ 0x2D ∷ 0x20 ∷ 0x0A ∷ []) || pointwise (◌==◌) bytes (0x2D ∷ 0x2D ∷ 0x20 ∷ 0x0D ∷ 0x0A ∷ [])

-- what is shown of a line
abbrev pub shown_part : List ℕ → List ℕ
shown_part bytes = if is_signature bytes then 0x2D ∷ 0x2D ∷ 0x20 ∷ [] else without_trailing_space bytes

-- a line behind an indent, or where nothing is shown of it another indent, without its trailing white space, and a line feed
abbrev pub printed_line : List ℕ → List ℕ → List ℕ → List ℕ
printed_line indent blank bytes =
    (if length (shown_part bytes) == 0 then without_trailing_space blank else indent ++ shown_part bytes) ++ 10 ∷ []
