-- Pieces of a text that were read, one after another.
use Rattle.std.specs.Prelude.{ℕ, ◌-◌, ◌<◌, ◌≤◌, Bool, false, Option, List, [], ◌∷◌, ◌++◌, get_or, length, map, ◌≡◌}
use Rattle.std.specs.List.{All}
use Rattle.seg_balance.specs.declared.balance.MeasuredLine.{MeasuredLine}
use Rattle.seg_balance.specs.declared.balance.MeasuredSegment.{MeasuredSegment}
use Rattle.seg_hyphens.specs.declared.patterns.HyphenationPatterns.{HyphenationPatterns}
use Rattle.seg_text.specs.declared.boundary.Boundary.{Boundary}
use Rattle.seg_text.specs.Items.{Text, start_of}
use Rattle.seg_wrap.specs.declared.wrap.wrapping.Piece.{Piece}
use Rattle.seg_wrap.specs.declared.wrap.wrapping.Span.{Span}
use Rattle.seg_wrap.specs.Paragraphs.{AreParts, Part, cut_at, behind_paragraph, first_paragraph}
use Rattle.seg_wrap.specs.Walk.{AreCuts, IsFirstSegment, segment_at}
use Rattle.seg_wrap.specs.Wrapping.{Measure, Segment, count_before, rest_from, segments_from}

-- a text begins with these pieces
unfoldable pub ArePieces : Measure → Text → List Piece → Type 0
ArePieces measure text [] = Unit {0}
ArePieces measure text (piece ∷ pieces) = IsFirstSegment measure text piece × ArePieces measure (rest_from piece.end text) pieces

-- they are these segments
unfoldable pub segments_at : Measure → Text → List Piece → List Segment
segments_at measure text [] = []
segments_at measure text (piece ∷ pieces) = segment_at measure text piece ∷ segments_at measure (rest_from piece.end text) pieces

-- a piece as a part
abbrev pub part_at : Measure → Text → Piece → Part
part_at measure text piece = record { segment = segment_at measure text piece; is_hyphenated = piece.is_hyphenated }

-- with their hyphens they are these parts
unfoldable pub parts_at : Measure → Text → List Piece → List Part
parts_at measure text [] = []
parts_at measure text (piece ∷ pieces) =
    part_at measure text piece ∷ parts_at measure (rest_from piece.end text) pieces

-- and this is left behind them
unfoldable pub rest_behind : Text → List Piece → Text
rest_behind text [] = text
rest_behind text (piece ∷ pieces) = rest_behind (rest_from piece.end text) pieces

-- they are the first paragraph of a text with these segments, of which this is left, and these boundaries
pub record IsParagraph (measure : Measure) (text : Text) (segments : List Segment) (pieces : List Piece) (rest : Text) (boundaries : List Boundary) : Type 0 where
  pub are : ArePieces measure text pieces
  pub first : segments_at measure text pieces ≡ first_paragraph segments
  pub behind : segments_from measure rest boundaries ≡ behind_paragraph segments
  pub rest_is : rest ≡ rest_behind text pieces
  pub cuts : AreCuts rest boundaries
  pub whole : All (λ (piece : Piece). piece.is_hyphenated ≡ false) pieces

-- a text begins with pieces, and these are their parts, by some patterns
pub record ArePartsOf (patterns : Option HyphenationPatterns) (measure : Measure) (text : Text) (pieces parts : List Piece) : Type 0 where
  pub are : ArePieces measure text parts
  pub cut : AreParts patterns measure (segments_at measure text pieces) (parts_at measure text parts)
  pub rest : rest_behind text parts ≡ rest_behind text pieces

-- these places stand at items of a text, in order, behind more than so many items and fewer than so many
unfoldable pub ArePlacesInside : Text → ℕ → ℕ → List ℕ → Type 0
ArePlacesInside text low high [] = Unit {0}
ArePlacesInside text low high (place ∷ places) =
    ((place ≡ start_of (rest_from place text)) × ((low < count_before place text) × (count_before place text < high)))
    × ArePlacesInside text (count_before place text) high places

-- behind so many items they stand
abbrev pub counts_at : Text → List ℕ → List ℕ
counts_at text places = map (λ place. count_before place text) places

-- a part with which a text begins was pushed, measured
pub record PushesPart (measure : Measure) (text : Text) (part : Piece) (old new : List Piece) : Type 0 where
  pub added : Piece
  pub pushed : new ≡ old ++ added ∷ []
  pub is : IsFirstSegment measure text added
  pub end : added.end ≡ part.end
  pub hyphen : added.is_hyphenated ≡ part.is_hyphenated
  pub mandatory : added.is_mandatory ≡ part.is_mandatory

-- the parts of a piece with which a text begins were pushed, cut at these places
pub record PushesParts (measure : Measure) (text : Text) (piece : Piece) (places : List ℕ) (old new : List Piece) : Type 0 where
  pub added : List Piece
  pub pushed : new ≡ old ++ added
  pub are : ArePieces measure text added
  pub cut : parts_at measure text added ≡ cut_at measure 0 (counts_at text places) (segment_at measure text piece)
  pub rest : rest_behind text added ≡ rest_from piece.end text

-- what a piece takes of a line
abbrev pub measured_piece : Piece → MeasuredSegment
measured_piece piece = record {
  columns = piece.extent.columns;
  trailing_columns = piece.extent.inner_columns - piece.extent.columns;
  is_blank = piece.extent.is_trailing;
  is_hyphenated = piece.is_hyphenated;
  is_mandatory = piece.is_mandatory;
}

-- the last of so many pieces
abbrev pub last_of : ℕ → List Piece → Piece
last_of count pieces =
    get_or pieces (count - 1)
    (record { end = 0; extent = record { columns = 0; inner_columns = 0; is_trailing = false }; is_hyphenated = false; is_mandatory = false })

-- where lines of a paragraph stand that end with these pieces, from its first line on or from a later one
unfoldable pub spans_at : Bool → ℕ → List Piece → List MeasuredLine → List Span
spans_at is_first start pieces [] = []
spans_at is_first start pieces (line ∷ lines) =
    let last = last_of line.end pieces in
    record {
      start = start;
      end = last.end;
      columns = line.columns;
      is_first = is_first;
      is_hyphenated = last.is_hyphenated;
      is_mandatory = last.is_mandatory;
    } ∷ spans_at false last.end pieces lines

-- each of these lines ends with a piece
abbrev pub EndWithPieces : List Piece → List MeasuredLine → Type 0
EndWithPieces pieces lines = All (λ (line : MeasuredLine). (0 < line.end) × (line.end ≤ length pieces)) lines
