-- A wrapper on its way through a text, and what it measures.
use Rattle.std.specs.Prelude.{◌≡◌, ℕ, ◌+◌, ◌&&◌, Bool, false, List, [], ◌∷◌, ◌++◌, if◌then◌else◌, ◌*◌, ◌<◌, ◌≤◌, ◌==◌, length, Option, Some, None, MatchOption}
use Rattle.seg_text.specs.Items.{Text, code_points, rest_after, start_of}
use Rattle.seg_text.specs.declared.boundary.Boundary.{Boundary}
use Rattle.seg_text.specs.Boundaries.{boundary}
use Rattle.seg_wrap.specs.declared.wrap.extent.Extent.{Extent}
use Rattle.seg_clusters.specs.Clusters.{cluster_rules}
use Rattle.seg_wrap.specs.declared.wrap.measure.Measuring.{Measuring}
use Rattle.seg_wrap.specs.declared.wrap.measure.Measuring.TheVariants.{Characters, Clusters}
use Rattle.seg_wrap.specs.Wrapping.{Cell, Measure, are_trailing, by_characters, by_clusters, columns_of, total_of, Line, Segment, characters_before, count_before, lines_from, rest_from, segment_of, segments_from}
use Rattle.seg_wrap.specs.declared.wrap.breaks.Break.{Break}
use Rattle.seg_wrap.specs.declared.wrap.wrapping.Piece.{Piece}
use Rattle.seg_wrap.specs.declared.wrap.wrapping.Room.{Room}
use Rattle.seg_wrap.specs.declared.wrap.wrapping.Span.{Span}

-- how a wrapper measures
abbrev pub measure_of : Measuring → Measure
measure_of Characters = by_characters
measure_of (Clusters clusters) = by_clusters (cluster_rules clusters)

-- What is known of some cells at a line's end or before it.

abbrev pub line_extent : List Cell → Extent
line_extent cells = record { columns = columns_of cells; inner_columns = total_of cells; is_trailing = are_trailing cells }

-- the extent of some cells and then others
abbrev pub joined_extents : Extent → Extent → Extent
joined_extents before after = record {
  columns = if after.is_trailing then before.columns else before.inner_columns + after.columns;
  inner_columns = before.inner_columns + after.inner_columns;
  is_trailing = before.is_trailing && after.is_trailing;
}

-- a text was read up to what is left of it, and this is the extent of what was read
pub record IsMeasuring (text rest : Text) (extent : Extent) : Type 0 where
  pub read : List ℕ
  pub measured : extent ≡ line_extent (by_characters read)
  pub characters : code_points text.items ≡ read ++ code_points rest.items

-- A wrapper on its way through a text.

-- a break was read of these boundaries, if there is one
abbrev pub ReadsBreak : List Boundary → Option Break → List Boundary → Type 0
ReadsBreak before result after =
    MatchOption result ((before ≡ []) × (after ≡ [])) (λ one.
    (status : ℕ) × ((before ≡ boundary one.end status ∷ after) × (one.is_mandatory ≡ (status == 1))))

-- the boundaries stand after the start of a text, in order, each at the place of an item or at the end, and the last there
unfoldable pub AreCuts : Text → List Boundary → Type 0
AreCuts text [] = text.items ≡ []
AreCuts text (one ∷ boundaries) =
    (0 < count_before one.offset text)
    × ((one.offset ≡ start_of (rest_from one.offset text)) × AreCuts (rest_from one.offset text) boundaries)

-- the piece that a text begins with, as a segment, and as a line
abbrev pub segment_at : Measure → Text → Piece → Segment
segment_at measure text piece = segment_of measure (characters_before piece.end text) piece.is_mandatory

abbrev pub line_at : Bool → Text → Piece → Line
line_at is_first text piece =
    record {
      characters = characters_before piece.end text;
      columns = piece.extent.columns;
      is_first = is_first;
      is_hyphenated = false;
      is_mandatory = piece.is_mandatory;
    }

-- a text begins with this piece, and this is the extent of its cells
pub record IsFirstPiece (text : Text) (cells : List Cell) (piece : Piece) : Type 0 where
  pub some : 0 < count_before piece.end text
  pub at : piece.end ≡ start_of (rest_from piece.end text)
  pub measured : piece.extent ≡ line_extent cells
  pub small : piece.extent.inner_columns + 8 * start_of text ≤ 8 * piece.end

-- a text begins with this piece, which is its first segment
abbrev pub IsFirstSegment : Measure → Text → Piece → Type 0
IsFirstSegment measure text piece = IsFirstPiece text (segment_at measure text piece).cells piece

-- what follows a piece that was read already, if there is one
abbrev pub rest_held : Text → Option Piece → Text
rest_held text None = text
rest_held text (Some piece) = rest_from piece.end text

-- the segments that begin with it
abbrev pub segments_held : Measure → Text → Option Piece → List Boundary → List Segment
segments_held measure text None boundaries = []
segments_held measure text (Some piece) boundaries = segment_at measure text piece ∷ segments_from measure (rest_from piece.end text) boundaries

abbrev pub lines_held : Measure → Room → Bool → Text → Option Piece → List Boundary → List Line
lines_held measure room is_first text None boundaries = []
lines_held measure room is_first text (Some piece) boundaries =
    lines_from room is_first (segment_at measure text piece) (segments_from measure (rest_from piece.end text) boundaries)

-- what is held is a piece, and the boundaries that follow stand after it
abbrev pub IsHeldPiece : Measure → Text → Option Piece → List Boundary → Type 0
IsHeldPiece measure text None boundaries = (text.items ≡ []) × (boundaries ≡ [])
IsHeldPiece measure text (Some piece) boundaries = IsFirstSegment measure text piece × AreCuts (rest_from piece.end text) boundaries

-- a line that began with some segments, a paragraph's first or not, the piece after it, and what is left of the boundaries and of the text: the
-- lines owed are those from here on
pub record IsGrowing (measure : Measure) (room : Room) (is_first : Bool) (text : Text) (owed : List Line) (line : Piece) (held : Option Piece) (boundaries : List Boundary) (after : Text) : Type 0 where
  pub cells : List Cell
  pub piece : IsFirstPiece text cells line
  pub held_is : IsHeldPiece measure (rest_from line.end text) held boundaries
  pub after_is : after ≡ rest_held (rest_from line.end text) held
  pub lines : lines_from room is_first (record { characters = characters_before line.end text; cells = cells; is_mandatory = line.is_mandatory })
      (segments_held measure (rest_from line.end text) held boundaries) ≡ owed

-- what is left of a text, and the lines that it has
pub record LinesLeft : Type 0 where
  pub text : Text
  pub lines : List Line

-- the first of those lines was given, by the places where it begins and ends
abbrev pub GivesLine : LinesLeft → Option Span → LinesLeft → Type 0
GivesLine before result after =
    MatchOption result ((before.lines ≡ []) × (after ≡ before)) (λ span.
    (line : Line) × ((before.lines ≡ line ∷ after.lines) × ((after.text ≡ rest_after (length line.characters) before.text)
    × ((span.start ≡ start_of before.text) × ((span.end ≡ start_of after.text)
    × ((span.columns ≡ line.columns) × ((span.is_first ≡ line.is_first)
    × ((span.is_hyphenated ≡ line.is_hyphenated) × (span.is_mandatory ≡ line.is_mandatory)))))))))
