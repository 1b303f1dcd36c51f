-- Pieces of a text that are read one after another, up to the end of a paragraph.
use Rattle.std.proofs.Common.{◌≡◌, ℕ, ◌+◌, ◌-◌, ◌*◌, ◌<◌, ◌≤◌, ◌^◌, Bool, true, false, List, [], ◌∷◌, ◌++◌, length, drop, drop-cons, get_or, map, suc, refl, sym, ap, ◌∙◌, subst, arith}
use Rattle.std.specs.Prelude.{IfSome, Option, Some, None, if◌then◌else◌}
use Rattle.std.specs.List.{All}
use Rattle.std.proofs.lemmas.List.Elements.{All-nil, All-push}
use Rattle.std.proofs.lemmas.List.{append-nil, append_assoc, drop-drop}
use Rattle.seg_balance.specs.Balanced.{total_columns}
use Rattle.seg_balance.specs.declared.balance.MeasuredSegment.{MeasuredSegment}
use Rattle.seg_text.specs.declared.boundary.Boundary.{Boundary}
use Rattle.seg_text.specs.Items.{IsRising, Text, rest_after, start_of}
use Rattle.seg_text.proofs.Places.{IsRising-drop}
use Rattle.seg_wrap.specs.declared.wrap.extent.Extent.{Extent}
use Rattle.seg_wrap.specs.declared.wrap.wrapping.Piece.{Piece}
use Rattle.seg_wrap.specs.Paragraphs.{Part, behind_paragraph, first_paragraph, measured}
use Rattle.seg_wrap.specs.Pieces.{ArePieces, IsParagraph, measured_piece, part_at, parts_at, rest_behind, segments_at}
use Rattle.seg_wrap.specs.Walk.{AreCuts, IsFirstSegment, IsHeldPiece, line_extent, rest_held, segment_at, segments_held}
use Rattle.seg_wrap.specs.Wrapping.{Measure, Segment, characters_before, count_before, rest_from, segments_from}
use Rattle.seg_wrap.proofs.Extents.{columns-most}
use Rattle.seg_wrap.proofs.Places.{place-within}

-- from one element on
pub next-of : {X : Type 0} → (xs : List X) (index : ℕ) (default : X) → index < length xs → drop index xs ≡ get_or xs index default ∷ drop (index + 1) xs
next-of xs index default under = drop-cons xs index default under ∙ ap (λ (n : ℕ). get_or xs index default ∷ drop n xs) one
  where
    one : suc index ≡ index + 1
    one = omega (arith)

-- ---- one piece more at the end

pub are-more : (measure : Measure) (text : Text) (pieces : List Piece) (piece : Piece) → ArePieces measure text pieces
    → IsFirstSegment measure (rest_behind text pieces) piece → ArePieces measure text (pieces ++ piece ∷ [])
unfolding ArePieces rest_behind
are-more measure text [] piece are first = (first, tt)
are-more measure text (one ∷ pieces) piece are first = (are.0, are-more measure (rest_from one.end text) pieces piece are.1 first)

pub segments-more : (measure : Measure) (text : Text) (pieces : List Piece) (piece : Piece)
    → segments_at measure text (pieces ++ piece ∷ []) ≡ segments_at measure text pieces ++ segment_at measure (rest_behind text pieces) piece ∷ []
unfolding segments_at rest_behind
segments-more measure text [] piece = refl
segments-more measure text (one ∷ pieces) piece = ap (λ (later : List Segment). segment_at measure text one ∷ later) (segments-more measure (rest_from one.end text) pieces piece)

pub parts-more : (measure : Measure) (text : Text) (pieces : List Piece) (piece : Piece)
    → parts_at measure text (pieces ++ piece ∷ []) ≡ parts_at measure text pieces ++ part_at measure (rest_behind text pieces) piece ∷ []
unfolding parts_at rest_behind
parts-more measure text [] piece = refl
parts-more measure text (one ∷ pieces) piece = ap (λ (later : List Part). part_at measure text one ∷ later) (parts-more measure (rest_from one.end text) pieces piece)

pub rest-more : (text : Text) (pieces : List Piece) (piece : Piece) → rest_behind text (pieces ++ piece ∷ []) ≡ rest_from piece.end (rest_behind text pieces)
unfolding rest_behind
rest-more text [] piece = refl
rest-more text (one ∷ pieces) piece = rest-more (rest_from one.end text) pieces piece

-- ---- a paragraph is read

-- no hyphen is shown behind it
abbrev IsPlain : Piece → Type 0
IsPlain piece = piece.is_hyphenated ≡ false

-- these pieces were read of its first paragraph, which may go on
pub record IsGathering (measure : Measure) (text : Text) (segments : List Segment) (pieces : List Piece) (rest : Text) (boundaries : List Boundary) : Type 0 where
  pub are : ArePieces measure text pieces
  pub first : first_paragraph segments ≡ segments_at measure text pieces ++ first_paragraph (segments_from measure rest boundaries)
  pub behind : behind_paragraph segments ≡ behind_paragraph (segments_from measure rest boundaries)
  pub rest_is : rest ≡ rest_behind text pieces
  pub cuts : AreCuts rest boundaries
  pub whole : All IsPlain pieces

pub gather-start : (measure : Measure) (text rest : Text) (boundaries : List Boundary) → AreCuts rest boundaries → rest ≡ text
    → IsGathering measure text (segments_from measure text boundaries) [] rest boundaries
unfolding ArePieces segments_at rest_behind
gather-start measure text rest boundaries cuts same = record {
  are = tt;
  first = ap (λ (t : Text). first_paragraph (segments_from measure t boundaries)) (sym same);
  behind = ap (λ (t : Text). behind_paragraph (segments_from measure t boundaries)) (sym same);
  rest_is = same;
  cuts = cuts;
  whole = All-nil _;
}

-- one more was read of what is left
record IsReadOn (measure : Measure) (here there : Text) (left later : List Boundary) (piece : Piece) : Type 0 where
  pub segments : segments_from measure here left ≡ segment_at measure here piece ∷ segments_from measure (rest_from piece.end here) later
  pub first : IsFirstSegment measure here piece
  pub cuts : AreCuts (rest_from piece.end here) later
  pub there_is : there ≡ rest_from piece.end here

read-on : (measure : Measure) (here there : Text) (left later : List Boundary) (given : Option Piece) (piece : Piece) → given ≡ Some piece
    → segments_held measure here given later ≡ segments_from measure here left → IsHeldPiece measure here given later → there ≡ rest_held here given
    → IsReadOn measure here there left later piece
read-on measure here there left later given piece some segments held there-is = record {
  segments = sym (subst (λ (g : Option Piece). segments_held measure here g later ≡ segments_from measure here left) some segments);
  first = (subst (λ (g : Option Piece). IsHeldPiece measure here g later) some held).0;
  cuts = (subst (λ (g : Option Piece). IsHeldPiece measure here g later) some held).1;
  there_is = there-is ∙ ap (λ (g : Option Piece). rest_held here g) some;
}

first-on : (segment : Segment) (segments : List Segment) (mark : Bool) → segment.is_mandatory ≡ mark
    → first_paragraph (segment ∷ segments) ≡ segment ∷ (if mark then [] else first_paragraph segments)
unfolding first_paragraph
first-on segment segments mark is = ap (λ (b : Bool). segment ∷ (if b then [] else first_paragraph segments)) is

behind-on : (segment : Segment) (segments : List Segment) (mark : Bool) → segment.is_mandatory ≡ mark
    → behind_paragraph (segment ∷ segments) ≡ (if mark then segments else behind_paragraph segments)
unfolding behind_paragraph
behind-on segment segments mark is = ap (λ (b : Bool). if b then segments else behind_paragraph segments) is

pub gather-next : (measure : Measure) (text : Text) (segments : List Segment) (pieces more : List Piece) (here there : Text) (left later : List Boundary)
    (given : Option Piece) (piece : Piece) → IsGathering measure text segments pieces here left → given ≡ Some piece
    → segments_held measure here given later ≡ segments_from measure here left → IsHeldPiece measure here given later → there ≡ rest_held here given
    → more ≡ pieces ++ piece ∷ [] → IfSome given IsPlain → piece.is_mandatory ≡ false → IsGathering measure text segments more there later
gather-next measure text segments pieces more here there left later given piece is some held-segments held there-is pushed plain goes = rw pushed (record {
  are = are-more measure text pieces piece is.are (subst (λ (t : Text). IsFirstSegment measure t piece) is.rest_is read.first);
  first =
      is.first
      ∙ ap (λ (found : List Segment). segments_at measure text pieces ++ first_paragraph found) read.segments
      ∙ ap (λ (found : List Segment). segments_at measure text pieces ++ found) (first-on one rest false goes)
      ∙ sym (append_assoc (segments_at measure text pieces) (one ∷ []) (first_paragraph rest))
      ∙ ap (λ (t : Text). (segments_at measure text pieces ++ segment_at measure t piece ∷ []) ++ first_paragraph rest) is.rest_is
      ∙ ap (λ (found : List Segment). found ++ first_paragraph rest) (sym (segments-more measure text pieces piece))
      ∙ ap (λ (t : Text). segments_at measure text (pieces ++ piece ∷ []) ++ first_paragraph (segments_from measure t later)) (sym read.there_is);
  behind =
      is.behind
      ∙ ap behind_paragraph read.segments
      ∙ behind-on one rest false goes
      ∙ ap (λ (t : Text). behind_paragraph (segments_from measure t later)) (sym read.there_is);
  rest_is = read.there_is ∙ ap (rest_from piece.end) is.rest_is ∙ sym (rest-more text pieces piece);
  cuts = subst (λ (t : Text). AreCuts t later) (sym read.there_is) read.cuts;
  whole = All-push IsPlain pieces piece is.whole (subst (λ (g : Option Piece). IfSome g IsPlain) some plain);
})
  where
    read : IsReadOn measure here there left later piece
    read = read-on measure here there left later given piece some held-segments held there-is

    one : Segment
    one = segment_at measure here piece

    rest : List Segment
    rest = segments_from measure (rest_from piece.end here) later

-- a paragraph ends with it
pub gather-last : (measure : Measure) (text : Text) (segments : List Segment) (pieces more : List Piece) (here there : Text) (left later : List Boundary)
    (given : Option Piece) (piece : Piece) → IsGathering measure text segments pieces here left → given ≡ Some piece
    → segments_held measure here given later ≡ segments_from measure here left → IsHeldPiece measure here given later → there ≡ rest_held here given
    → more ≡ pieces ++ piece ∷ [] → IfSome given IsPlain → piece.is_mandatory ≡ true → IsParagraph measure text segments more there later
gather-last measure text segments pieces more here there left later given piece is some held-segments held there-is pushed plain ends = rw pushed (record {
  are = are-more measure text pieces piece is.are (subst (λ (t : Text). IsFirstSegment measure t piece) is.rest_is read.first);
  first =
      segments-more measure text pieces piece
      ∙ ap (λ (t : Text). segments_at measure text pieces ++ segment_at measure t piece ∷ []) (sym is.rest_is)
      ∙ ap (λ (found : List Segment). segments_at measure text pieces ++ found) (sym (first-on one rest true ends))
      ∙ ap (λ (found : List Segment). segments_at measure text pieces ++ first_paragraph found) (sym read.segments)
      ∙ sym is.first;
  behind =
      ap (λ (t : Text). segments_from measure t later) read.there_is
      ∙ sym (is.behind ∙ ap behind_paragraph read.segments ∙ behind-on one rest true ends);
  rest_is = read.there_is ∙ ap (rest_from piece.end) is.rest_is ∙ sym (rest-more text pieces piece);
  cuts = subst (λ (t : Text). AreCuts t later) (sym read.there_is) read.cuts;
  whole = All-push IsPlain pieces piece is.whole (subst (λ (g : Option Piece). IfSome g IsPlain) some plain);
})
  where
    read : IsReadOn measure here there left later piece
    read = read-on measure here there left later given piece some held-segments held there-is

    one : Segment
    one = segment_at measure here piece

    rest : List Segment
    rest = segments_from measure (rest_from piece.end here) later

-- no piece is left
pub gather-end : (measure : Measure) (text : Text) (segments : List Segment) (pieces : List Piece) (here there : Text) (left later : List Boundary)
    (given : Option Piece) → IsGathering measure text segments pieces here left → given ≡ None
    → segments_held measure here given later ≡ segments_from measure here left → IsHeldPiece measure here given later → there ≡ rest_held here given
    → IsParagraph measure text segments pieces there later
unfolding first_paragraph behind_paragraph segments_from AreCuts
gather-end measure text segments pieces here there left later given is none held-segments held there-is = record {
  are = is.are;
  first = sym (is.first ∙ ap (λ (found : List Segment). segments_at measure text pieces ++ first_paragraph found) empty ∙ append-nil (segments_at measure text pieces));
  behind = ap (λ (found : List Boundary). segments_from measure there found) nothing.1 ∙ sym (is.behind ∙ ap behind_paragraph empty);
  rest_is = same ∙ is.rest_is;
  cuts = subst (λ (found : List Boundary). AreCuts there found) (sym nothing.1) (ap (λ (t : Text). t.items) same ∙ nothing.0);
  whole = is.whole;
}
  where
    empty : segments_from measure here left ≡ []
    empty = sym (subst (λ (g : Option Piece). segments_held measure here g later ≡ segments_from measure here left) none held-segments)

    nothing : (here.items ≡ []) × (later ≡ [])
    nothing = subst (λ (g : Option Piece). IsHeldPiece measure here g later) none held

    same : there ≡ here
    same = there-is ∙ ap (λ (g : Option Piece). rest_held here g) none

-- with each piece fewer segments are left
pub gather-fewer : (measure : Measure) (here there : Text) (left later : List Boundary) (given : Option Piece) (piece : Piece) → given ≡ Some piece
    → segments_held measure here given later ≡ segments_from measure here left → IsHeldPiece measure here given later → there ≡ rest_held here given
    → length (segments_from measure there later) < length (segments_from measure here left)
gather-fewer measure here there left later given piece some held-segments held there-is =
    let read = read-on measure here there left later given piece some held-segments held there-is in
    omega (arith, ap length read.segments, ap (λ (t : Text). length (segments_from measure t later)) read.there_is)

-- ---- what pieces take of a line

pub pieces-measured : (measure : Measure) (text : Text) (pieces : List Piece) → ArePieces measure text pieces
    → map measured_piece pieces ≡ map measured (parts_at measure text pieces)
unfolding ArePieces parts_at
pieces-measured measure text [] are = refl
pieces-measured measure text (piece ∷ pieces) are =
    ap (λ (one : MeasuredSegment). one ∷ map measured_piece pieces) (ap with are.0.measured)
    ∙ ap (λ (later : List MeasuredSegment). with (line_extent (measure (characters_before piece.end text))) ∷ later)
    (pieces-measured measure (rest_from piece.end text) pieces are.1)
  where
    with : Extent → MeasuredSegment
    with extent = record {
      columns = extent.columns;
      trailing_columns = extent.inner_columns - extent.columns;
      is_blank = extent.is_trailing;
      is_hyphenated = piece.is_hyphenated;
      is_mandatory = piece.is_mandatory;
    }

pieces-small : (measure : Measure) (text : Text) (pieces : List Piece) → ArePieces measure text pieces
    → total_columns (map measured_piece pieces) + 8 * start_of text ≤ 8 * start_of (rest_behind text pieces)
unfolding ArePieces rest_behind total_columns
pieces-small measure text [] are = omega (arith)
pieces-small measure text (piece ∷ pieces) are =
    omega (
      arith,
      pieces-small measure (rest_from piece.end text) pieces are.1,
      are.0.small,
      are.0.at,
      ap (λ (e : Extent). e.columns) are.0.measured,
      ap (λ (e : Extent). e.inner_columns) are.0.measured,
      columns-most (measure (characters_before piece.end text)),
    )

-- what is left behind some pieces, by how many items they have
pub behind-after : (text : Text) (pieces : List Piece) → (k : ℕ) × (rest_behind text pieces ≡ rest_after k text)
unfolding rest_behind
behind-after text [] = (0, refl)
behind-after text (piece ∷ pieces) =
    let later = behind-after (rest_from piece.end text) pieces in
    (_, later.1 ∙ ap (λ (items : List _). record { items = items; end = text.end }) (drop-drop later.0 (count_before piece.end text) text.items))

pub pieces-room : (measure : Measure) (text : Text) (pieces : List Piece) → IsRising text.items text.end → ArePieces measure text pieces
    → text.end < 2 ^ 64 → total_columns (map measured_piece pieces) + 1 < 2 ^ 128
pieces-room measure text pieces rises are end =
    let found = behind-after text pieces in
    omega (
      arith,
      pieces-small measure text pieces are,
      ap start_of found.1,
      place-within (rest_after found.0 text).items text.end (IsRising-drop text.items text.end found.0 rises),
      end,
    )
