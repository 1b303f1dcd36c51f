-- The lines of a text, joined, are the text.
use Rattle.std.proofs.Common.{◌≡◌, ℕ, ◌+◌, ◌-◌, ◌≤◌, Bool, true, false, List, [], ◌∷◌, ◌++◌, length, drop, take, refl, sym, ap, ◌∙◌, arith}
use Rattle.std.specs.Prelude.{if◌then◌else◌}
use Rattle.std.specs.List.{flat_map}
use Rattle.std.proofs.Math.Seq.{take-add}
use Rattle.std.proofs.lemmas.List.{drop-drop, length-append, length-drop, nil_from_length, take_all}
use Rattle.seg_text.specs.declared.boundary.Boundary.{Boundary}
use Rattle.seg_text.specs.Items.{IsRising, Item, Text, place_of, rest_after, start_of}
use Rattle.seg_text.proofs.Places.{IsRising-drop}
use Rattle.seg_wrap.specs.declared.wrap.wrapping.Room.{Room}
use Rattle.seg_wrap.specs.Walk.{AreCuts}
use Rattle.seg_lines.specs.Between.{between}
use Rattle.seg_wrap.specs.Wrapping.{Line, Measure, Segment, TextLine, columns_in, count_before, ends_before, line_of, lines_from, as_one, rest_from, segments_from, text_lines, wrapped_lines}
use Rattle.seg_wrap.proofs.Texts.{IsTextOf}
use Rattle.seg_wrap.proofs.Places.{characters-length, count-within, place-grows, place-within}

between-join : (units : List ℕ) (from mid to : ℕ) → from ≤ mid → mid ≤ to → between from mid units ++ between mid to units ≡ between from to units
between-join units from mid to first second =
    let here : drop (mid - from) (drop from units) ≡ drop mid units = drop-drop (mid - from) from units ∙ ap (λ (n : ℕ). drop n units) (omega (arith, first)) in
    ap (λ (rest : List ℕ). between from mid units ++ take (to - mid) rest) (sym here)
    ∙ sym (take-add (mid - from) (to - mid) (drop from units))
    ∙ ap (λ (n : ℕ). take n (drop from units)) (omega (arith, first, second))

-- how many characters lines have, and segments
unfoldable pub lines_length : List Line → ℕ
lines_length [] = 0
lines_length (line ∷ lines) = length line.characters + lines_length lines

unfoldable pub segments_length : List Segment → ℕ
segments_length [] = 0
segments_length (segment ∷ segments) = length segment.characters + segments_length segments

pub length-of-lines : (room : Room) (is_first : Bool) (line : Segment) (segments : List Segment) → lines_length (lines_from room is_first line segments) ≡ length line.characters + segments_length segments
unfolding lines_from lines_length segments_length
length-of-lines room is_first line [] = refl
length-of-lines room is_first line (next ∷ segments) =
    on (ends_before (columns_in room is_first) line next) (length-of-lines room line.is_mandatory next segments) (length-of-lines room is_first (as_one line next) segments)
  where
    on : (b : Bool) → lines_length (lines_from room line.is_mandatory next segments) ≡ length next.characters + segments_length segments
        → lines_length (lines_from room is_first (as_one line next) segments) ≡ length (line.characters ++ next.characters) + segments_length segments
        → lines_length (if b then line_of is_first line ∷ lines_from room line.is_mandatory next segments else lines_from room is_first (as_one line next) segments)
        ≡ length line.characters + (length next.characters + segments_length segments)
    on true anew further = ap (λ (n : ℕ). length line.characters + n) anew
    on false anew further = omega (arith, further, length-append line.characters next.characters)

length-of-segments : (measure : Measure) (text : Text) (boundaries : List Boundary) → AreCuts text boundaries → segments_length (segments_from measure text boundaries) ≡ length text.items
unfolding AreCuts segments_from segments_length
length-of-segments measure text [] cuts = sym (ap length cuts)
length-of-segments measure text (one ∷ boundaries) cuts =
    let count : ℕ = count_before one.offset text in
    omega (arith, characters-length text one.offset, length-of-segments measure (rest_from one.offset text) boundaries cuts.1.1, length-drop count text.items, count-within text one.offset)

-- what lines with as many characters as there are items stand in
lines-joined : (units : List ℕ) (text : Text) (lines : List Line) → IsRising text.items text.end → lines_length lines ≡ length text.items
    → flat_map (λ (line : TextLine). line.units) (text_lines units text lines) ≡ between (start_of text) text.end units
unfolding text_lines lines_length
lines-joined units text [] rises same =
    let at : start_of text ≡ text.end = ap (λ (items : List Item). place_of items text.end) (nil_from_length text.items (sym same)) in
    let nothing : 0 ≡ text.end - start_of text = omega (arith, at) in
    ap (λ (n : ℕ). take n (drop (start_of text) units)) nothing
lines-joined units text (line ∷ lines) rises same =
    let taken : ℕ = length line.characters in
    let rest : Text = rest_after taken text in
    let rises_on : IsRising rest.items text.end = IsRising-drop text.items text.end taken rises in
    let left : lines_length lines ≡ length rest.items = omega (arith, same, length-drop taken text.items) in
    ap (λ (later : List ℕ). between (start_of text) (start_of rest) units ++ later) (lines-joined units rest lines rises_on left)
    ∙ between-join units (start_of text) (start_of rest) text.end (place-grows text.items text.end taken rises) (place-within rest.items text.end rises_on)

pub wrapped-joined : (measure : Measure) (room : Room) (units : List ℕ) (text : Text) (boundaries : List Boundary) → IsRising text.items text.end → AreCuts text boundaries
    → flat_map (λ (line : TextLine). line.units) (text_lines units text (wrapped_lines room (segments_from measure text boundaries))) ≡ between (start_of text) text.end units
unfolding lines_length segments_length
wrapped-joined measure room units text boundaries rises cuts =
    lines-joined units text (wrapped_lines room (segments_from measure text boundaries)) rises
    (on (segments_from measure text boundaries) ∙ length-of-segments measure text boundaries cuts)
  where
    on : (segments : List Segment) → lines_length (wrapped_lines room segments) ≡ segments_length segments
    on [] = refl
    on (first ∷ segments) = length-of-lines room true first segments

-- and those of a text that stands in some units are the units
pub units-joined : (measure : Measure) (room : Room) (units : List ℕ) (text : Text) (boundaries : List Boundary) → IsTextOf units text → AreCuts text boundaries
    → flat_map (λ (line : TextLine). line.units) (text_lines units text (wrapped_lines room (segments_from measure text boundaries))) ≡ units
units-joined measure room units text boundaries is cuts =
    wrapped-joined measure room units text boundaries is.rises cuts
    ∙ ap (λ (n : ℕ). between n text.end units) is.start
    ∙ take_all (text.end - 0) units (omega (arith, is.end))
