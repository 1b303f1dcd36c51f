-- Texts whose lines are joined to paragraphs.
use Rattle.std.specs.Prelude.{ℕ, ◌-◌, ◌==◌, ◌||◌, ◌&&◌, not, Bool, List, [], ◌∷◌, ◌++◌, length, take, drop, if◌then◌else◌}
use Rattle.std.specs.Cmp.Lexicographic.{pointwise}
use Rattle.std.specs.List.{prefix_len, suffix_len, starts_with}
use Rattle.segment_text.specs.Size.{line_feeds}

-- white space: spaces, tabs, line feeds and carriage returns
abbrev pub is_white_space : ℕ → Bool
is_white_space byte = byte == 0x20 || byte == 0x09 || byte == 0x0A || byte == 0x0D

-- the white space that a text begins with, and what stands behind it
abbrev pub space_of : List ℕ → List ℕ
space_of text = take (prefix_len is_white_space text) text

abbrev pub behind_space : List ℕ → List ℕ
behind_space text = drop (prefix_len is_white_space text) text

-- whether a line stays as it is: one that is quoted (`>`), and one that begins with the hyphens before a signature (`-- `)
abbrev pub is_apart : List ℕ → Bool
is_apart line = starts_with (◌==◌) (behind_space line) (0x3E ∷ []) || starts_with (◌==◌) (behind_space line) (0x2D ∷ 0x2D ∷ 0x20 ∷ [])

-- whether two lines, one behind the other, are of one paragraph: those of one indentation
abbrev pub are_joined : List ℕ → List ℕ → Bool
are_joined line following = pointwise (◌==◌) (space_of line) (space_of following) && not (is_apart line) && not (is_apart following)

-- the text from where the line begins in which some bytes stand that follow white space: behind its last line feed, or where the line before began
abbrev pub line_behind : List ℕ → List ℕ → List ℕ → List ℕ
line_behind line space bytes =
    if line_feeds space == 0 then line else drop (length space - suffix_len (λ byte. not (byte == 0x0A)) space) space ++ bytes

-- what is written for the white space between a line's words and some bytes: a space where it has one line feed, which joins two lines. Where it
-- has none, or more, between which lines are blank, where the lines are of two paragraphs, and at the end of the text, it stays
abbrev pub joined_space : List ℕ → List ℕ → List ℕ → List ℕ
joined_space line space [] = space
joined_space line space (byte ∷ bytes) =
    if line_feeds space == 1 && are_joined line (line_behind line space (byte ∷ bytes)) then 0x20 ∷ [] else space

-- the text of some bytes, in a line, after white space that stands before them
unfoldable pub joined_after : List ℕ → List ℕ → List ℕ → List ℕ
joined_after line space [] = joined_space line space []
joined_after line space (byte ∷ bytes) =
    if is_white_space byte then joined_after line (space ++ byte ∷ []) bytes
    else joined_space line space (byte ∷ bytes) ++ byte ∷ joined_after (line_behind line space (byte ∷ bytes)) [] bytes

-- the text in which the lines of each paragraph are joined: white space at its start and at its end stays
unfoldable pub joined : List ℕ → List ℕ
joined text = space_of text ++ joined_after (line_behind text (space_of text) (behind_space text)) [] (behind_space text)
