-- How many lines are left.
use Rattle.std.proofs.Common.{◌≡◌, ℕ, suc, ◌+◌, ◌-◌, ◌<◌, ◌≤◌, Bool, true, false, List, [], ◌∷◌, length, refl, ap, arith}
use Rattle.std.specs.Prelude.{if◌then◌else◌, Option, Some, None, IfSome}
use Rattle.std.specs.Iterator.{UpTo, at_most}
use Rattle.std.proofs.lemmas.List.{length-drop}
use Rattle.seg_text.specs.declared.boundary.Boundary.{Boundary}
use Rattle.seg_text.specs.Items.{IsRising, Text, rest_after}
use Rattle.seg_text.proofs.Places.{IsRising-drop}
use Rattle.seg_wrap.specs.declared.wrap.wrapping.Piece.{Piece}
use Rattle.seg_wrap.specs.declared.wrap.wrapping.Room.{Room}
use Rattle.seg_wrap.specs.Walk.{AreCuts, IsHeldPiece, LinesLeft, lines_held, segment_at}
use Rattle.seg_wrap.specs.Wrapping.{Line, Measure, Segment, columns_in, count_before, ends_before, line_of, lines_from, as_one, rest_from, segments_from, text_lines}
use Rattle.seg_wrap.proofs.Places.{count-within, few-items, place-within}

-- each break stands behind an item or more
cuts-few : (text : Text) (boundaries : List Boundary) → AreCuts text boundaries → length boundaries ≤ length text.items
unfolding AreCuts
cuts-few text [] cuts = omega arith
cuts-few text (one ∷ boundaries) cuts =
    omega (
      arith,
      cuts.0,
      count-within text one.offset,
      length-drop (count_before one.offset text) text.items,
      cuts-few (rest_from one.offset text) boundaries cuts.1.1,
    )

segments-few : (measure : Measure) (text : Text) (boundaries : List Boundary) → length (segments_from measure text boundaries) ≡ length boundaries
unfolding segments_from
segments-few measure text [] = refl
segments-few measure text (one ∷ boundaries) = ap suc (segments-few measure (rest_from one.offset text) boundaries)

-- a line takes a segment or more
lines-few : (room : Room) (is_first : Bool) (line : Segment) (segments : List Segment) → length (lines_from room is_first line segments) ≤ 1 + length segments
unfolding lines_from
lines-few room is_first line [] = omega arith
lines-few room is_first line (next ∷ segments) =
    by (ends_before (columns_in room is_first) line next) (lines-few room line.is_mandatory next segments) (lines-few room is_first (as_one line next) segments)
  where
    by : (b : Bool) → length (lines_from room line.is_mandatory next segments) ≤ 1 + length segments
        → length (lines_from room is_first (as_one line next) segments) ≤ 1 + length segments
        → length (if b then line_of is_first line ∷ lines_from room line.is_mandatory next segments else lines_from room is_first (as_one line next) segments) ≤ 1 + length (next ∷ segments)
    by true ends goes = omega (arith, ends)
    by false ends goes = omega (arith, goes)

lines-some : (room : Room) (is_first : Bool) (line : Segment) (segments : List Segment) → 0 < length (lines_from room is_first line segments)
unfolding lines_from
lines-some room is_first line [] = omega arith
lines-some room is_first line (next ∷ segments) = by (ends_before (columns_in room is_first) line next) (lines-some room is_first (as_one line next) segments)
  where
    by : (b : Bool) → 0 < length (lines_from room is_first (as_one line next) segments)
        → 0 < length (if b then line_of is_first line ∷ lines_from room line.is_mandatory next segments else lines_from room is_first (as_one line next) segments)
    by true goes = omega arith
    by false goes = goes

-- the piece that is held ends in the text
pub held-within : (measure : Measure) (text : Text) (held : Option Piece) (piece : Piece) (boundaries : List Boundary) → IsRising text.items text.end
    → IsHeldPiece measure text held boundaries → held ≡ Some piece → piece.end ≤ text.end
held-within measure text held piece boundaries rises is some =
    let held_is : IsHeldPiece measure text (Some piece) boundaries = rw some at is in
    let later = IsRising-drop text.items text.end (count_before piece.end text) rises in
    omega (arith, held_is.0.at, place-within (rest_from piece.end text).items text.end later)

-- with it there is a line, and no more than one for it and one for each unit after it
pub held-some : (measure : Measure) (room : Room) (is_first : Bool) (text : Text) (held : Option Piece) (piece : Piece) (boundaries : List Boundary) → held ≡ Some piece
    → 1 ≤ length (lines_held measure room is_first text held boundaries)
held-some measure room is_first text held piece boundaries some =
    rw some (lines-some room is_first (segment_at measure text piece) (segments_from measure (rest_from piece.end text) boundaries))

pub held-few : (measure : Measure) (room : Room) (is_first : Bool) (text : Text) (held : Option Piece) (piece : Piece) (boundaries : List Boundary) → IsRising text.items text.end
    → IsHeldPiece measure text held boundaries → held ≡ Some piece → length (lines_held measure room is_first text held boundaries) ≤ 1 + (text.end - piece.end)
held-few measure room is_first text held piece boundaries rises is some =
    let held_is : IsHeldPiece measure text (Some piece) boundaries = rw some at is in
    let rest = rest_from piece.end text in
    rw some
    (omega (
      arith,
      held_is.0.at,
      lines-few room is_first (segment_at measure text piece) (segments_from measure rest boundaries),
      segments-few measure rest boundaries,
      cuts-few rest boundaries held_is.1,
      few-items rest.items text.end (IsRising-drop text.items text.end (count_before piece.end text) rises),
    ))

-- as many lines stand in units
lines-same : (units : List ℕ) (text : Text) (lines : List Line) → length (text_lines units text lines) ≡ length lines
unfolding text_lines
lines-same units text [] = refl
lines-same units text (line ∷ lines) = ap suc (lines-same units (rest_after (length line.characters) text) lines)

pub hint-lower : (units : List ℕ) (left : LinesLeft) (least : ℕ) → least ≤ length left.lines → least ≤ length (text_lines units left.text left.lines)
hint-lower units left least few = rw (lines-same units left.text left.lines) few

pub hint-upper : (units : List ℕ) (left : LinesLeft) (most : Option ℕ) → IfSome most (λ most. length left.lines ≤ most)
    → IfSome most (UpTo (at_most (length (text_lines units left.text left.lines))))
hint-upper units left None few = tt
hint-upper units left (Some most) few = (tt, rw (lines-same units left.text left.lines) few)
