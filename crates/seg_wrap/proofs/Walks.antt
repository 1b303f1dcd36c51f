-- Pieces of a text, put together.
use Rattle.std.proofs.Common.{◌≡◌, ℕ, ◌+◌, ◌*◌, ◌<◌, ◌≤◌, List, [], ◌∷◌, ◌++◌, length, refl, sym, ap, ◌∙◌, subst, arith}
use Rattle.std.specs.Prelude.{Bool, true, false, nat_lt, ◌||◌, ◌==◌, Option, Some, None}
use Rattle.std.proofs.lemmas.Bool.{le-ltb, lt-ltb}
use Rattle.std.proofs.lemmas.List.{take-map}
use Rattle.seg_text.specs.declared.boundary.Boundary.{Boundary}
use Rattle.seg_text.specs.Boundaries.{boundary}
use Rattle.seg_text.specs.Items.{Item, Text, code_points, rest_after, start_of, text_before}
use Rattle.seg_wrap.specs.declared.wrap.extent.Extent.{Extent}
use Rattle.seg_wrap.specs.declared.wrap.wrapping.Piece.{Piece}
use Rattle.seg_wrap.specs.declared.wrap.wrapping.Room.{Room}
use Rattle.seg_wrap.specs.Walk.{line_extent, joined_extents, AreCuts, IsGrowing, IsHeldPiece, IsFirstPiece, IsFirstSegment, line_at, lines_held, rest_held, segment_at, segments_held}
use Rattle.seg_wrap.specs.Wrapping.{Cell, Line, Measure, Segment, characters_before, columns_in, columns_of, count_before, line_of, lines_from, rest_from, segments_from}
use Rattle.seg_wrap.proofs.Extents.{columns-most, extent-append}
use Rattle.seg_wrap.proofs.Places.{characters-on, count-before-on, first-before, rest-of-characters, rest-on, start-before}

-- two pieces as one
abbrev pub joined_piece : Piece → Piece → Piece
joined_piece line piece = record {
  end = piece.end;
  extent = joined_extents line.extent piece.extent;
  is_hyphenated = piece.is_hyphenated;
  is_mandatory = piece.is_mandatory;
}

abbrev segment_with : Bool → List Cell → List ℕ → Segment
segment_with mark cells cs = record { characters = cs; cells = cells; is_mandatory = mark }

abbrev line_with : Bool → List ℕ → ℕ → Bool → Line
line_with is_first cs columns mark = record { characters = cs; columns = columns; is_first = is_first; is_hyphenated = false; is_mandatory = mark }

-- a line of some cells, and the piece after it
pub record IsPair (measure : Measure) (text : Text) (cells : List Cell) (line piece : Piece) : Type 0 where
  pub line_is : IsFirstPiece text cells line
  pub piece_is : IsFirstSegment measure (rest_from line.end text) piece

ends-later : (measure : Measure) (text : Text) (cells : List Cell) (line piece : Piece) → IsPair measure text cells line piece → line.end ≤ piece.end
ends-later measure text cells line piece is =
    omega (arith, is.line_is.at, first-before (rest_from line.end text).items text.end piece.end is.piece_is.some)

-- the characters of both, their cells, and their columns
characters-of-both : (measure : Measure) (text : Text) (cells : List Cell) (line piece : Piece) → IsPair measure text cells line piece
    → characters_before piece.end text ≡ characters_before line.end text ++ characters_before piece.end (rest_from line.end text)
characters-of-both measure text cells line piece is = characters-on text line.end piece.end (ends-later measure text cells line piece is)

-- the cells of the piece
abbrev cells_after : Measure → Text → Piece → Piece → List Cell
cells_after measure text line piece = measure (characters_before piece.end (rest_from line.end text))

extent-of-both : (measure : Measure) (text : Text) (cells : List Cell) (line piece : Piece) → IsPair measure text cells line piece
    → joined_extents line.extent piece.extent ≡ line_extent (cells ++ cells_after measure text line piece)
extent-of-both measure text cells line piece is =
    rw (is.line_is.measured, is.piece_is.measured) (sym (extent-append cells (cells_after measure text line piece)))

columns-of-both : (measure : Measure) (text : Text) (cells : List Cell) (line piece : Piece) → IsPair measure text cells line piece
    → (joined_extents line.extent piece.extent).columns ≡ columns_of (cells ++ cells_after measure text line piece)
columns-of-both measure text cells line piece is = ap (λ (extent : Extent). extent.columns) (extent-of-both measure text cells line piece is)

piece-of-both : (measure : Measure) (text : Text) (cells : List Cell) (line piece : Piece) → IsPair measure text cells line piece
    → IsFirstPiece text (cells ++ cells_after measure text line piece) (joined_piece line piece)
piece-of-both measure text cells line piece is =
    let within = ends-later measure text cells line piece is in
    record {
      some = omega (arith, count-before-on text line.end piece.end within, is.line_is.some);
      at = is.piece_is.at ∙ ap start_of (rest-on text line.end piece.end within);
      measured = extent-of-both measure text cells line piece is;
      small = omega (arith, is.line_is.small, is.piece_is.small, is.line_is.at);
    }

rest-of-both : (measure : Measure) (text : Text) (cells : List Cell) (line piece : Piece) → IsPair measure text cells line piece
    → rest_from piece.end (rest_from line.end text) ≡ rest_from piece.end text
rest-of-both measure text cells line piece is = rest-on text line.end piece.end (ends-later measure text cells line piece is)

-- ---- a line grows

pair-of : (measure : Measure) (room : Room) (is_first : Bool) (text after : Text) (owed : List Line) (line piece : Piece) (boundaries : List Boundary)
    → (is : IsGrowing measure room is_first text owed line (Some piece) boundaries after) → IsPair measure text is.cells line piece
pair-of measure room is_first text after owed line piece boundaries is = record { line_is = is.piece; piece_is = is.held_is.0 }

grow-on : (measure : Measure) (room : Room) (is_first : Bool) (text here after : Text) (owed : List Line) (line piece : Piece) (before : List Boundary) (held : Option Piece) (boundaries : List Boundary)
    → IsGrowing measure room is_first text owed line (Some piece) before here
    → (line.is_mandatory || nat_lt (columns_in room is_first) (joined_extents line.extent piece.extent).columns) ≡ false
    → segments_held measure here held boundaries ≡ segments_from measure here before → IsHeldPiece measure here held boundaries → after ≡ rest_held here held
    → IsGrowing measure room is_first text owed (joined_piece line piece) held boundaries after
unfolding lines_from
grow-on measure room is_first text here after owed line piece before held boundaries is goes segments held_is after_is =
    let pair = pair-of measure room is_first text here owed line piece before is in
    let cells : List Cell = is.cells ++ cells_after measure text line piece in
    let there : here ≡ rest_from piece.end text = is.after_is ∙ rest-of-both measure text is.cells line piece pair in
    let further : (line.is_mandatory || nat_lt (columns_in room is_first) (columns_of cells)) ≡ false
    = subst (λ (n : ℕ). (line.is_mandatory || nat_lt (columns_in room is_first) n) ≡ false) (columns-of-both measure text is.cells line piece pair) goes in
    let owes = rw further at is.lines in
    let same : segments_held measure (rest_from piece.end text) held boundaries ≡ segments_from measure (rest_from piece.end (rest_from line.end text)) before
    = subst (λ (t : Text). segments_held measure t held boundaries ≡ segments_from measure here before) there segments
    ∙ ap (λ (t : Text). segments_from measure t before) is.after_is in
    let characters = characters-of-both measure text is.cells line piece pair in
    record {
      cells = cells;
      piece = piece-of-both measure text is.cells line piece pair;
      held_is = subst (λ (t : Text). IsHeldPiece measure t held boundaries) there held_is;
      after_is = after_is ∙ ap (λ (t : Text). rest_held t held) there;
      lines = ap (lines_from room is_first (segment_with piece.is_mandatory cells (characters_before piece.end text))) same
          ∙ ap (λ (cs : List ℕ). lines_from room is_first (segment_with piece.is_mandatory cells cs) (segments_from measure (rest_from piece.end (rest_from line.end text)) before)) characters
          ∙ owes;
    }

-- a line as the cells say, and as the piece does
line-of-cells : (is_first : Bool) (text : Text) (cells : List Cell) (line : Piece) → IsFirstPiece text cells line
    → line_of is_first (segment_with line.is_mandatory cells (characters_before line.end text)) ≡ line_at is_first text line
line-of-cells is_first text cells line is =
    ap (λ (extent : Extent). line_with is_first (characters_before line.end text) extent.columns line.is_mandatory) (sym is.measured)

grow-stop : (measure : Measure) (room : Room) (is_first : Bool) (text here : Text) (owed : List Line) (line piece : Piece) (boundaries : List Boundary)
    → IsGrowing measure room is_first text owed line (Some piece) boundaries here
    → (line.is_mandatory || nat_lt (columns_in room is_first) (joined_extents line.extent piece.extent).columns) ≡ true
    → owed ≡ line_at is_first text line ∷ lines_held measure room line.is_mandatory (rest_from line.end text) (Some piece) boundaries
unfolding lines_from
grow-stop measure room is_first text here owed line piece boundaries is stops =
    let pair = pair-of measure room is_first text here owed line piece boundaries is in
    let stopped : (line.is_mandatory || nat_lt (columns_in room is_first) (columns_of (is.cells ++ cells_after measure text line piece))) ≡ true
    = subst (λ (n : ℕ). (line.is_mandatory || nat_lt (columns_in room is_first) n) ≡ true) (columns-of-both measure text is.cells line piece pair) stops in
    sym (rw stopped at is.lines) ∙ ap (λ (one : Line). one ∷ lines_held measure room line.is_mandatory (rest_from line.end text) (Some piece) boundaries) (line-of-cells is_first text is.cells line is.piece)

grow-end : (measure : Measure) (room : Room) (is_first : Bool) (text here : Text) (owed : List Line) (line : Piece) (boundaries : List Boundary)
    → IsGrowing measure room is_first text owed line None boundaries here
    → owed ≡ line_at is_first text line ∷ lines_held measure room line.is_mandatory (rest_from line.end text) None boundaries
unfolding lines_from
grow-end measure room is_first text here owed line boundaries is =
    sym is.lines ∙ ap (λ (one : Line). one ∷ []) (line-of-cells is_first text is.cells line is.piece)

-- ---- one break is read

-- the break that was read, of these boundaries
abbrev pub IsRead : ℕ → Bool → List Boundary → List Boundary → Type 0
IsRead end mark before after = (status : ℕ) × ((before ≡ boundary end status ∷ after) × (mark ≡ (status == 1)))

pub none-segments : (measure : Measure) (text : Text) (given : Option Piece) (before after : List Boundary) → (before ≡ []) × (after ≡ []) → given ≡ None
    → segments_held measure text given after ≡ segments_from measure text before
unfolding segments_from
none-segments measure text given before after empty none = rw (none, empty.0) refl

pub none-held : (measure : Measure) (text : Text) (given : Option Piece) (before after : List Boundary) → AreCuts text before → (before ≡ []) × (after ≡ []) → given ≡ None
    → IsHeldPiece measure text given after
unfolding AreCuts
none-held measure text given before after cuts empty none =
    let at_end : text.items ≡ [] = subst (AreCuts text) empty.0 cuts in
    subst (λ (g : Option Piece). IsHeldPiece measure text g after) (sym none) (at_end, empty.1)

pub read-cuts : (text : Text) (end : ℕ) (mark : Bool) (before after : List Boundary) → AreCuts text before → IsRead end mark before after
    → (0 < count_before end text) × ((end ≡ start_of (rest_from end text)) × AreCuts (rest_from end text) after)
unfolding AreCuts
read-cuts text end mark before after cuts is = subst (AreCuts text) is.1.0 cuts

pub read-place : (text : Text) (end : ℕ) (mark : Bool) (before after : List Boundary) → AreCuts text before → IsRead end mark before after
    → end ≡ start_of (rest_after (count_before end text) text)
read-place text end mark before after cuts is = (read-cuts text end mark before after cuts is).1.0

pub part-end : (text part : Text) (count end : ℕ) → part ≡ text_before count text → end ≡ start_of (rest_after count text) → part.end ≡ end
part-end text part count end part_is at = ap (λ (t : Text). t.end) part_is ∙ sym at

pub read-segments : (measure : Measure) (text : Text) (end : ℕ) (mark : Bool) (extent : Extent) (before after : List Boundary) → IsRead end mark before after
    → segment_at measure text (record { end = end; extent = extent; is_hyphenated = false; is_mandatory = mark }) ∷ segments_from measure (rest_from end text) after ≡ segments_from measure text before
unfolding segments_from
read-segments measure text end mark extent before after is = rw (is.1.0, is.1.1) refl

-- a piece that ends where an item begins, measured
pub first-segment : (measure : Measure) (text part : Text) (end : ℕ) (hyphen mark : Bool) (extent : Extent) → 0 < count_before end text
    → end ≡ start_of (rest_from end text) → part ≡ text_before (count_before end text) text → extent ≡ line_extent (measure (code_points part.items))
    → extent.inner_columns + 8 * start_of part ≤ 8 * part.end
    → IsFirstSegment measure text (record { end = end; extent = extent; is_hyphenated = hyphen; is_mandatory = mark })
first-segment measure text part end hyphen mark extent some at part_is measured small =
    let count : ℕ = count_before end text in
    let first : start_of part ≡ start_of text = ap start_of part_is ∙ start-before count text some in
    let last : part.end ≡ end = part-end text part count end part_is at in
    record {
      some = some;
      at = at;
      measured = measured ∙ ap (λ (cs : List ℕ). line_extent (measure cs)) (ap (λ (t : Text). code_points t.items) part_is ∙ sym (take-map (λ (item : Item). item.1) count text.items));
      small = omega (arith, small, first, last);
    }

pub read-held : (measure : Measure) (text part : Text) (end : ℕ) (mark : Bool) (extent : Extent) (before after : List Boundary) → AreCuts text before → IsRead end mark before after
    → part ≡ text_before (count_before end text) text → extent ≡ line_extent (measure (code_points part.items))
    → extent.inner_columns + 8 * start_of part ≤ 8 * part.end
    → IsHeldPiece measure text (Some (record { end = end; extent = extent; is_hyphenated = false; is_mandatory = mark })) after
read-held measure text part end mark extent before after cuts is part_is measured small =
    let parts = read-cuts text end mark before after cuts is in
    (first-segment measure text part end false mark extent parts.0 parts.1.0 part_is measured small, parts.1.1)

-- ---- one piece more

growing-at : (measure : Measure) (room : Room) (is_first : Bool) (text here : Text) (owed : List Line) (line : Piece) (held : Option Piece) (piece : Piece) (boundaries : List Boundary)
    → IsGrowing measure room is_first text owed line held boundaries here → held ≡ Some piece → IsGrowing measure room is_first text owed line (Some piece) boundaries here
growing-at measure room is_first text here owed line held piece boundaries is some = subst (λ (h : Option Piece). IsGrowing measure room is_first text owed line h boundaries here) some is

pub turn-within : (measure : Measure) (room : Room) (is_first : Bool) (text here : Text) (owed : List Line) (line : Piece) (held : Option Piece) (piece : Piece) (boundaries : List Boundary)
    → IsGrowing measure room is_first text owed line held boundaries here → held ≡ Some piece → piece.extent.columns ≤ piece.extent.inner_columns
turn-within measure room is_first text here owed line held piece boundaries is some =
    let growing = growing-at measure room is_first text here owed line held piece boundaries is some in
    rw growing.held_is.0.measured (columns-most (measure (characters_before piece.end (rest_from line.end text))))

pub turn : (measure : Measure) (room : Room) (is_first : Bool) (text here after : Text) (owed : List Line) (line : Piece) (before : Option Piece) (piece : Piece) (extent : Extent) (left : List Boundary)
    (held : Option Piece) (boundaries : List Boundary)
    → IsGrowing measure room is_first text owed line before left here → before ≡ Some piece
    → extent ≡ joined_extents line.extent piece.extent → line.is_mandatory ≡ false → extent.columns ≤ columns_in room is_first
    → segments_held measure here held boundaries ≡ segments_from measure here left → IsHeldPiece measure here held boundaries → after ≡ rest_held here held
    → IsGrowing measure room is_first text owed (record { end = piece.end; extent = extent; is_hyphenated = piece.is_hyphenated; is_mandatory = piece.is_mandatory }) held boundaries after
turn measure room is_first text here after owed line before piece extent left held boundaries is some both mark fits segments held_is after_is =
    let goes : (line.is_mandatory || nat_lt (columns_in room is_first) (joined_extents line.extent piece.extent).columns) ≡ false = rw mark (subst (λ (e : Extent). nat_lt (columns_in room is_first) e.columns ≡ false) both (le-ltb (columns_in room is_first) extent.columns fits)) in
    subst (λ (e : Extent). IsGrowing measure room is_first text owed (record { end = piece.end; extent = e; is_hyphenated = piece.is_hyphenated; is_mandatory = piece.is_mandatory }) held boundaries after) (sym both)
    (grow-on measure room is_first text here after owed line piece left held boundaries (growing-at measure room is_first text here owed line before piece left is some) goes segments held_is after_is)

-- with each piece fewer segments are left
pub turn-fewer : (measure : Measure) (room : Room) (is_first : Bool) (text here : Text) (owed : List Line) (line : Piece) (before : Option Piece) (piece : Piece) (left : List Boundary)
    (held : Option Piece) (boundaries : List Boundary)
    → IsGrowing measure room is_first text owed line before left here → before ≡ Some piece
    → segments_held measure here held boundaries ≡ segments_from measure here left
    → length (segments_held measure (rest_from piece.end text) held boundaries) < length (segments_held measure (rest_from line.end text) before left)
turn-fewer measure room is_first text here owed line before piece left held boundaries is some segments =
    let growing = growing-at measure room is_first text here owed line before piece left is some in
    let there : here ≡ rest_from piece.end text = growing.after_is ∙ rest-of-both measure text growing.cells line piece (pair-of measure room is_first text here owed line piece left growing) in
    let same : segments_held measure (rest_from piece.end text) held boundaries ≡ segments_from measure (rest_from piece.end (rest_from line.end text)) left
    = subst (λ (t : Text). segments_held measure t held boundaries ≡ segments_from measure here left) there segments
    ∙ ap (λ (t : Text). segments_from measure t left) growing.after_is in
    rw (some, same) (omega arith)

pub turn-stop : (measure : Measure) (room : Room) (is_first : Bool) (text here : Text) (owed : List Line) (line : Piece) (held : Option Piece) (piece : Piece) (extent : Extent) (boundaries : List Boundary)
    → IsGrowing measure room is_first text owed line held boundaries here → held ≡ Some piece
    → extent ≡ joined_extents line.extent piece.extent → (line.is_mandatory || nat_lt (columns_in room is_first) extent.columns) ≡ true
    → owed ≡ line_at is_first text line ∷ lines_held measure room line.is_mandatory (rest_from line.end text) (Some piece) boundaries
turn-stop measure room is_first text here owed line held piece extent boundaries is some both stops =
    grow-stop measure room is_first text here owed line piece boundaries (growing-at measure room is_first text here owed line held piece boundaries is some)
    (subst (λ (e : Extent). (line.is_mandatory || nat_lt (columns_in room is_first) e.columns) ≡ true) both stops)

pub turn-end : (measure : Measure) (room : Room) (is_first : Bool) (text here : Text) (owed : List Line) (line : Piece) (held : Option Piece) (boundaries : List Boundary)
    → IsGrowing measure room is_first text owed line held boundaries here → held ≡ None
    → owed ≡ line_at is_first text line ∷ lines_held measure room line.is_mandatory (rest_from line.end text) held boundaries
turn-end measure room is_first text here owed line held boundaries is none =
    rw none (grow-end measure room is_first text here owed line boundaries (subst (λ (h : Option Piece). IsGrowing measure room is_first text owed line h boundaries here) none is))

-- the line that is found is given
pub given-span : (measure : Measure) (room : Room) (is_first : Bool) (text rest : Text) (held : Option Piece) (first line : Piece) (next : Option Piece) (left later : List Boundary)
    → held ≡ Some first → (cells : List Cell) × IsFirstPiece text cells line → rest ≡ rest_from line.end text
    → lines_from room is_first (segment_at measure text first) (segments_from measure (rest_from first.end text) left) ≡ line_at is_first text line ∷ lines_held measure room line.is_mandatory (rest_from line.end text) next later
    → (one : Line) × ((lines_held measure room is_first text held left ≡ one ∷ lines_held measure room line.is_mandatory rest next later) × ((rest ≡ rest_after (length one.characters) text)
    × ((line.end ≡ start_of rest) × ((line.extent.columns ≡ one.columns) × ((is_first ≡ one.is_first) × ((false ≡ one.is_hyphenated) × (line.is_mandatory ≡ one.is_mandatory)))))))
given-span measure room is_first text rest held first line next left later held_is is rest_is lines = (
  line_at is_first text line,
  (
    rw held_is (lines ∙ ap (λ (t : Text). line_at is_first text line ∷ lines_held measure room line.is_mandatory t next later) (sym rest_is)),
    (
      rest_is ∙ sym (rest-of-characters text line.end),
      (
        is.1.at ∙ ap start_of (sym rest_is),
        (refl, (refl, (refl, refl))),
      ),
    ),
  ),
)

pub either-first : (a b : Bool) → a ≡ true → (a || b) ≡ true
either-first a b is = rw is refl

pub either-second : (a : Bool) (limit columns : ℕ) → limit < columns → (a || nat_lt limit columns) ≡ true
either-second true limit columns more = refl
either-second false limit columns more = lt-ltb limit columns more
