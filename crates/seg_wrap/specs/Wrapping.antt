-- Lines of a text, wrapped to so many columns.
use Rattle.std.specs.Prelude.{ℕ, ◌+◌, ◌-◌, ◌==◌, ◌||◌, nat_lt, Bool, true, false, List, [], ◌∷◌, ◌++◌, drop, take, length, if◌then◌else◌, ◌≡◌, ◌<◌, ◌≤◌, map, encode_utf8_all}
use Rattle.std.specs.List.{list_all, prefix_len}
use Rattle.std.specs.Option.{unwrap_or}
use Rattle.unicode_width.specs.Width.{char_width, str_width}
use Rattle.seg_text.specs.declared.boundary.Boundary.{Boundary}
use Rattle.seg_text.specs.Decoding.{character_of, utf8}
use Rattle.seg_text.specs.Items.{Item, Text, code_points, rest_after, start_of}
use Rattle.seg_clusters.specs.Rules.{Rules, boundaries_by}
use Rattle.seg_lines.specs.Between.{between}
use Rattle.seg_wrap.specs.declared.wrap.wrapping.Room.{Room}

-- ---- columns

-- trailing white space of a line is of these: spaces, line feeds and carriage returns
abbrev pub is_trailing_space : ℕ → Bool
is_trailing_space c = (c == 0x20) || (c == 0xA) || (c == 0xD)

-- the columns of a code point: a character without a width has none
abbrev pub width_of : ℕ → ℕ
width_of c = unwrap_or (char_width false (character_of c)) 0

-- a cell: characters that are measured as one. The columns that they take, and whether they are trailing white space where they end a line
pub record Cell : Type 0 where
  pub width : ℕ
  pub is_trailing : Bool

-- the columns of cells that others follow in their line: the sum of their widths
unfoldable pub total_of : List Cell → ℕ
total_of [] = 0
total_of (cell ∷ cells) = cell.width + total_of cells

abbrev pub are_trailing : List Cell → Bool
are_trailing cells = list_all (λ (cell : Cell). cell.is_trailing) cells

-- the columns of a line of these cells: trailing white space isn't counted
unfoldable pub columns_of : List Cell → ℕ
columns_of [] = 0
columns_of (cell ∷ cells) = if are_trailing (cell ∷ cells) then 0 else cell.width + columns_of cells

-- how the characters of a segment are measured: as which cells
abbrev pub Measure : Type 0
Measure = List ℕ → List Cell

-- one by one
abbrev pub cell_of : ℕ → Cell
cell_of c = record { width = width_of c; is_trailing = is_trailing_space c }

abbrev pub by_characters : Measure
by_characters cs = map cell_of cs

-- the columns of possibly ill-formed UTF-8 that others follow in its line
abbrev pub bytes_columns : List ℕ → ℕ
bytes_columns bytes = total_of (by_characters (code_points (utf8 bytes).items))

-- the columns of a cluster of these characters: those of them as a str, or, where that has more than 128 bytes, the sum of theirs
abbrev pub cluster_width : List ℕ → ℕ
cluster_width cs =
    let shown = map character_of cs in
    if nat_lt 128 (length (encode_utf8_all shown)) then total_of (by_characters cs) else str_width false shown

abbrev pub cluster_cell : List ℕ → Cell
cluster_cell cs = record { width = cluster_width cs; is_trailing = list_all is_trailing_space cs }

-- what stands in a list from an offset to the first of these boundaries, from there to the second, and so on
unfoldable pub parts_at : List ℕ → ℕ → List Boundary → List (List ℕ)
parts_at cs from [] = []
parts_at cs from (boundary ∷ boundaries) = between from boundary.offset cs ∷ parts_at cs boundary.offset boundaries

-- cluster by cluster, of the clusters that these rules find in the segment by itself
abbrev pub by_clusters : Rules → Measure
by_clusters rules cs = map cluster_cell (parts_at cs 0 (drop 1 (boundaries_by rules cs)))

-- ---- segments and lines

-- the characters of a piece of a text, their cells, and whether the line must end after it
pub record Segment : Type 0 where
  pub characters : List ℕ
  pub cells : List Cell
  pub is_mandatory : Bool

-- two segments as one: their characters and cells joined, with the mark of the second
abbrev pub as_one : Segment → Segment → Segment
as_one line next = record {
  characters = line.characters ++ next.characters;
  cells = line.cells ++ next.cells;
  is_mandatory = next.is_mandatory;
}

-- some characters as a segment
abbrev pub segment_of : Measure → List ℕ → Bool → Segment
segment_of measure cs mark = record { characters = cs; cells = measure cs; is_mandatory = mark }

-- how many items of a text begin before a place, their characters, and what is left of it from there on
abbrev pub count_before : ℕ → Text → ℕ
count_before place text = prefix_len (λ (item : Item). nat_lt item.0 place) text.items

abbrev pub characters_before : ℕ → Text → List ℕ
characters_before place text = take (count_before place text) (code_points text.items)

abbrev pub rest_from : ℕ → Text → Text
rest_from place text = rest_after (count_before place text) text

-- the segments of a text at these boundaries: each ends at the next one, and is mandatory where that has the status 1
unfoldable pub segments_from : Measure → Text → List Boundary → List Segment
segments_from measure text [] = []
segments_from measure text (boundary ∷ boundaries) =
    segment_of measure (characters_before boundary.offset text) (boundary.status == 1)
    ∷ segments_from measure (rest_from boundary.offset text) boundaries

-- the segments of a text: between each two neighbours of its boundaries, of which the first is at its start
abbrev pub segments_of : Measure → Text → List Boundary → List Segment
segments_of measure text boundaries = segments_from measure text (drop 1 boundaries)

-- a line: its characters, its columns, whether it is the first of its paragraph, whether it shows a hyphen at its end, and whether it ends where a
-- line must
pub record Line : Type 0 where
  pub characters : List ℕ
  pub columns : ℕ
  pub is_first : Bool
  pub is_hyphenated : Bool
  pub is_mandatory : Bool

-- segments as a line, which is the first of its paragraph or not
abbrev pub line_of : Bool → Segment → Line
line_of is_first line =
    record { characters = line.characters; columns = columns_of line.cells; is_first = is_first; is_hyphenated = false; is_mandatory = line.is_mandatory }

-- a line of so many columns ends before the next segment: where it must, or where it would be too wide with it
abbrev pub ends_before : ℕ → Segment → Segment → Bool
ends_before limit line next = line.is_mandatory || nat_lt limit (columns_of (line.cells ++ next.cells))

-- the columns of a line, which is the first of its paragraph or not
abbrev pub columns_in : Room → Bool → ℕ
columns_in room is_first = if is_first then room.first else room.others

-- as many in each line
abbrev pub even : ℕ → Room
even columns = record { first = columns; others = columns }

-- what so many columns leave beside these indents, as possibly ill-formed UTF-8
abbrev pub room_beside : ℕ → List ℕ → List ℕ → Room
room_beside columns first others = record { first = columns - bytes_columns first; others = columns - bytes_columns others }

-- the lines from one on that has begun with some segments, a first one or not: each takes segments as long as it may
unfoldable pub lines_from : Room → Bool → Segment → List Segment → List Line
lines_from room is_first line [] = line_of is_first line ∷ []
lines_from room is_first line (next ∷ segments) =
    if ends_before (columns_in room is_first) line next then line_of is_first line ∷ lines_from room line.is_mandatory next segments
    else lines_from room is_first (as_one line next) segments

-- the lines of these segments, wrapped to these columns: a paragraph begins at the start, and after each line that must end
abbrev pub wrapped_lines : Room → List Segment → List Line
wrapped_lines room [] = []
wrapped_lines room (first ∷ segments) = lines_from room true first segments

-- ---- lines of units

-- a line of a text: the units that it stands in, its columns, whether it is the first of its paragraph, and whether it ends where a line must
pub record TextLine : Type 0 where
  pub units : List ℕ
  pub columns : ℕ
  pub is_first : Bool
  pub is_mandatory : Bool

-- lines of a text that stands in these units, one after another: each has an item for each of its characters
unfoldable pub text_lines : List ℕ → Text → List Line → List TextLine
text_lines units text [] = []
text_lines units text (line ∷ lines) =
    let rest = rest_after (length line.characters) text in
    record { units = between (start_of text) (start_of rest) units; columns = line.columns; is_first = line.is_first; is_mandatory = line.is_mandatory }
    ∷ text_lines units rest lines

-- Wrapped lines in their own words: which lists of lines there may be.

-- the segments of a line as one
unfoldable pub whole : Segment → List Segment → Segment
whole first [] = first
whole first (next ∷ segments) = whole (as_one first next) segments

-- a line: one segment or more
pub record Parts : Type 0 where
  pub first : Segment
  pub others : List Segment

abbrev pub parts_of : Parts → List Segment
parts_of line = line.first ∷ line.others

abbrev pub whole_of : Parts → Segment
whole_of line = whole line.first line.others

-- none of these segments is mandatory but the last
unfoldable pub IsUnbroken : Segment → List Segment → Type 0
IsUnbroken first [] = Unit {0}
IsUnbroken first (next ∷ segments) = (first.is_mandatory ≡ false) × IsUnbroken next segments

-- what is asked of a line after which these segments follow
pub record IsLine (limit : ℕ) (line : Parts) (after : List Segment) : Type 0 where
  -- it ends at each place where it must
  pub ends : IsUnbroken line.first line.others
  -- where it has more than one segment it has at most these columns
  pub fits : 0 < length line.others → columns_of (whole_of line).cells ≤ limit
  -- where it ends at no such place, nor with the text, it would have more with the next segment
  pub full : (next : Segment) (later : List Segment) → after ≡ next ∷ later → (whole_of line).is_mandatory ≡ false
      → limit < columns_of ((whole_of line).cells ++ next.cells)

-- lines that take all these segments, in order, of which the first begins a paragraph or not
unfoldable pub AreLines : Room → Bool → List Segment → List Parts → Type 0
AreLines room is_first segments [] = segments ≡ []
AreLines room is_first segments (line ∷ lines) =
    (after : List Segment)
    × ((segments ≡ parts_of line ++ after) × (IsLine (columns_in room is_first) line after × AreLines room (whole_of line).is_mandatory after lines))

-- these as lines, of which the first begins a paragraph or not
unfoldable pub lines_of : Bool → List Parts → List Line
lines_of is_first [] = []
lines_of is_first (line ∷ lines) = line_of is_first (whole_of line) ∷ lines_of (whole_of line).is_mandatory lines

-- there is one such list of lines for each list of segments, and its lines are the wrapped lines
pub record HasOneWrapping (room : Room) (segments : List Segment) : Type 0 where
  pub lines : List Parts
  pub are : AreLines room true segments lines
  pub wrapped : lines_of true lines ≡ wrapped_lines room segments
  pub only : (others : List Parts) → AreLines room true segments others → others ≡ lines
