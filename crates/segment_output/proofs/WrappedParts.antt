-- The wrapped lines of a text are those of its first lines, where it must end behind them, and then those of the rest.
use Rattle.std.proofs.Common.{◌≡◌, ℕ, suc, ◌+◌, ◌-◌, ◌<◌, ◌≤◌, ◌==◌, Bool, true, false, cond, nat_lt, zero, List, [], ◌∷◌, ◌++◌, length, take, drop, refl, sym, ap, ap₂, subst, ◌∙◌, arith, length-append}
use Rattle.std.specs.Prelude.{if◌then◌else◌}
use Rattle.std.specs.List.{prefix_len}
use Rattle.std.proofs.Math.Seq.{drop-append_seam}
use Rattle.std.proofs.lemmas.Bool.{le-ltb, lt-ltb, ltb-false, ltb-true}
use Rattle.std.proofs.lemmas.List.{drop-append-le, drop-drop, drop-map, length-drop, length-map, map-append, nil_from_length, take-append-le}
use Rattle.std.proofs.lemmas.List.Sums.{prefix_len-le-length}
use Rattle.seg_text.specs.declared.boundary.Boundary.{Boundary}
use Rattle.seg_text.specs.Boundaries.{IsCover, RisesTo, boundary, shift_all}
use Rattle.seg_text.specs.Decoding.{read_utf8, utf8, utf8_items}
use Rattle.seg_text.specs.Items.{IsRising, Item, Text, code_points, place_of, start_of}
use Rattle.seg_text.specs.Lemmas.Utf8Stable.{read_utf8-stable}
use Rattle.seg_text.proofs.Places.{IsRising-drop}
use Rattle.seg_clusters.proofs.Encoded.{utf8-apart}
use Rattle.seg_text.proofs.LaterItems.{later-codes, later-place, later_items}
use Rattle.seg_clusters.proofs.SplitItems.{items-split}
use Rattle.seg_clusters.specs.Rules.{PartsBehind}
use Rattle.seg_lines.specs.LineBreaks.{LineRules, line_boundaries_of}
use Rattle.seg_lines.specs.Between.{between}
use Rattle.seg_wrap.specs.declared.wrap.wrapping.Room.{Room}
use Rattle.seg_wrap.specs.Wrapping.{Line, Measure, Segment, TextLine, as_one, characters_before, columns_in, ends_before, line_of, lines_from, rest_from, segment_of, segments_from, text_lines, wrapped_lines}
use Rattle.seg_wrap.specs.WrappedLines.{wrapped_within}
use Rattle.seg_wrap.proofs.Places.{none-left, place-within}
use Rattle.seg_wrap.proofs.SegmentsJoined.{length-of-lines, lines_length, segments_length}
use Rattle.seg_wrap.proofs.Texts.{utf8-text}
use Rattle.icu_segmenter.specs.NearBoundaries.{line_feed}
use Rattle.segment_output.specs.Wrapped.{last_status}
use Rattle.segment_output.proofs.JoinedCuts.{rises-order}

abbrev with_items : ℕ → List Item → Text
with_items end items = record { items = items; end = end }

abbrev count : ℕ → List Item → ℕ
count place items = prefix_len (λ (item : Item). nat_lt item.0 place) items

-- ---- how many items begin before a place

-- where others follow that begin no earlier
count-front : (place : ℕ) (items others : List Item) (end : ℕ) → place ≤ place_of others end → count place (items ++ others) ≡ count place items
count-front place [] [] end later = refl
count-front place [] (other ∷ others) end later = rw (le-ltb other.0 place later) refl
count-front place (item ∷ items) others end later = on (nat_lt item.0 place) (count-front place items others end later)
  where
    on : (b : Bool) → count place (items ++ others) ≡ count place items → cond b (1 + count place (items ++ others)) 0 ≡ cond b (1 + count place items) 0
    on true same = ap (λ (n : ℕ). 1 + n) same
    on false same = refl

count-later : (before place : ℕ) (items : List Item) → count (before + place) (later_items before items) ≡ count place items
count-later before place [] = refl
count-later before place (item ∷ items) = on (nat_lt item.0 place) refl (count-later before place items)
  where
    on : (b : Bool) → nat_lt item.0 place ≡ b → count (before + place) (later_items before items) ≡ count place items
        → cond (nat_lt (before + item.0) (before + place)) (1 + count (before + place) (later_items before items)) 0 ≡ cond b (1 + count place items) 0
    on true is same = rw (lt-ltb (before + item.0) (before + place) (omega (arith, ltb-true item.0 place is))) (ap (λ (n : ℕ). 1 + n) same)
    on false is same = rw (le-ltb (before + item.0) (before + place) (omega (arith, ltb-false item.0 place is))) refl

count-within : (place : ℕ) (items : List Item) → count place items ≤ length items
count-within place items = prefix_len-le-length (λ (item : Item). nat_lt item.0 place) items

-- what follows them begins at the place, or later
count-past : (place : ℕ) (items : List Item) (end : ℕ) → place ≤ end → place ≤ place_of (drop (count place items) items) end
count-past place [] end within = within
count-past place (item ∷ items) end within = on (nat_lt item.0 place) refl (count-past place items end within)
  where
    one-more : (n : ℕ) → drop (1 + n) (item ∷ items) ≡ drop n items
    one-more n = let same : 1 + n ≡ suc n = omega arith in ap (λ (k : ℕ). drop k (item ∷ items)) same

    on : (b : Bool) → nat_lt item.0 place ≡ b → place ≤ place_of (drop (count place items) items) end
        → place ≤ place_of (drop (cond b (1 + count place items) 0) (item ∷ items)) end
    on true is later = rw (one-more (count place items)) later
    on false is later = ltb-false item.0 place is

code_points-front : (n : ℕ) (items others : List Item) → n ≤ length items → take n (code_points (items ++ others)) ≡ take n (code_points items)
code_points-front n items others within =
    let long : n ≤ length (code_points items) = omega (arith, within, length-map items (λ (item : Item). item.1)) in
    ap (λ (cs : List ℕ). take n cs) (map-append (λ (item : Item). item.1) items others)
    ∙ take-append-le n (code_points items) (code_points others) long

-- ---- the segments of a text: those of its first items, and then those of the others

module _ (measure : Measure) where
  segments-front : (items others : List Item) (mid end from : ℕ) (boundaries more : List Boundary) → IsRising items mid → from ≤ place_of items mid → RisesTo from boundaries mid
      → mid ≡ place_of others end
      → segments_from measure (with_items end (items ++ others)) (boundaries ++ more)
      ≡ segments_from measure (with_items mid items) boundaries ++ segments_from measure (with_items end others) more
  unfolding segments_from
  segments-front items others mid end from [] more rises begins climbs seam =
      let at : place_of items mid ≡ mid = omega (arith, begins, climbs, place-within items mid rises) in
      ap (λ (items : List Item). segments_from measure (with_items end (items ++ others)) more) (none-left items mid rises at)
  segments-front items others mid end from (found ∷ boundaries) more rises begins climbs seam =
      let place : ℕ = found.offset in
      let n : ℕ = count place items in
      let within : place ≤ mid = rises-order place mid boundaries climbs.1 in
      let few : n ≤ length items = count-within place items in
      let same : count place (items ++ others) ≡ n = count-front place items others end (omega (arith, within, seam)) in
      let characters : take (count place (items ++ others)) (code_points (items ++ others)) ≡ take n (code_points items) =
      ap (λ (k : ℕ). take k (code_points (items ++ others))) same ∙ code_points-front n items others few in
      let rest : drop (count place (items ++ others)) (items ++ others) ≡ drop n items ++ others =
      ap (λ (k : ℕ). drop k (items ++ others)) same ∙ drop-append-le n items others few in
      let later = segments-front (drop n items) others mid end place boundaries more (IsRising-drop items mid n rises) (count-past place items mid within) climbs.1 seam in
      ap₂ (λ (cs : List ℕ) (items : List Item). segment_of measure cs (found.status == 1) ∷ segments_from measure (with_items end items) (boundaries ++ more)) characters rest
      ∙ ap (λ (segments : List Segment). segment_of measure (take n (code_points items)) (found.status == 1) ∷ segments) later

  segments-later : (before : ℕ) (items : List Item) (end : ℕ) (boundaries : List Boundary)
      → segments_from measure (with_items (before + end) (later_items before items)) (shift_all before boundaries) ≡ segments_from measure (with_items end items) boundaries
  unfolding segments_from
  segments-later before items end [] = refl
  segments-later before items end (found ∷ boundaries) =
      let place : ℕ = found.offset in
      let n : ℕ = count place items in
      let same : count (before + place) (later_items before items) ≡ n = count-later before place items in
      let characters : take (count (before + place) (later_items before items)) (code_points (later_items before items)) ≡ take n (code_points items) =
      ap₂ (λ (k : ℕ) (cs : List ℕ). take k cs) same (later-codes before items) in
      let rest : drop (count (before + place) (later_items before items)) (later_items before items) ≡ later_items before (drop n items) =
      ap (λ (k : ℕ). drop k (later_items before items)) same ∙ drop-map (λ (item : Item). (before + item.0, item.1)) n items in
      ap₂ (λ (cs : List ℕ) (items : List Item). segment_of measure cs (found.status == 1) ∷ segments_from measure (with_items (before + end) items) (shift_all before boundaries)) characters rest
      ∙ ap (λ (segments : List Segment). segment_of measure (take n (code_points items)) (found.status == 1) ∷ segments) (segments-later before (drop n items) end boundaries)

  -- all characters are in segments
  segments-whole : (items : List Item) (end from : ℕ) (boundaries : List Boundary) → IsRising items end → from ≤ place_of items end → RisesTo from boundaries end
      → segments_length (segments_from measure (with_items end items) boundaries) ≡ length items
  unfolding segments_from segments_length
  segments-whole items end from [] rises begins climbs =
      let at : place_of items end ≡ end = omega (arith, begins, climbs, place-within items end rises) in
      sym (ap length (none-left items end rises at))
  segments-whole items end from (found ∷ boundaries) rises begins climbs =
      let place : ℕ = found.offset in
      let n : ℕ = count place items in
      let within : place ≤ end = rises-order place end boundaries climbs.1 in
      let few : n ≤ length items = count-within place items in
      let later = segments-whole (drop n items) end place boundaries (IsRising-drop items end n rises) (count-past place items end within) climbs.1 in
      omega (arith, few, later, length-drop n items, taken n items few)
    where
      taken : (n : ℕ) (items : List Item) → n ≤ length items → length (take n (code_points items)) ≡ n
      taken zero items few = refl
      taken (suc n) [] few = absurd (omega (arith, few))
      taken (suc n) (item ∷ items) few = ap (λ (k : ℕ). suc k) (taken n items (omega (arith, few)))

  -- the last of them ends where a line must
  abbrev EndsLine : List Segment → Type 0
  EndsLine segments = (some : List Segment) × (last : Segment) × (segments ≡ some ++ last ∷ []) × (last.is_mandatory ≡ true)

  segments-last : (text : Text) (boundaries : List Boundary) (end : ℕ) → EndsLine (segments_from measure text (boundaries ++ boundary end 1 ∷ []))
  unfolding segments_from
  segments-last text [] end = ([], segment_of measure (characters_before end text) true, refl, refl)
  segments-last text (found ∷ boundaries) end =
      let later = segments-last (rest_from found.offset text) boundaries end in
      let first : Segment = segment_of measure (characters_before found.offset text) (found.status == 1) in
      (first ∷ later.0, later.1, ap (λ (segments : List Segment). first ∷ segments) later.2, later.3)

-- ---- lines end where they must

module _ (room : Room) where
  lines-behind : (is_first : Bool) (line : Segment) (more : List Segment) → line.is_mandatory ≡ true
      → lines_from room is_first line more ≡ line_of is_first line ∷ wrapped_lines room more
  unfolding lines_from
  lines-behind is_first line [] is = refl
  lines-behind is_first line (next ∷ more) is = rw is refl

  lines-split : (is_first : Bool) (line : Segment) (some : List Segment) (last : Segment) (more : List Segment) → last.is_mandatory ≡ true
      → lines_from room is_first line ((some ++ last ∷ []) ++ more) ≡ lines_from room is_first line (some ++ last ∷ []) ++ wrapped_lines room more
  unfolding lines_from
  lines-split is_first line [] last more is =
      on (ends_before (columns_in room is_first) line last) (lines-behind line.is_mandatory last more is) (lines-behind is_first (as_one line last) more is)
    where
      on : (b : Bool) → lines_from room line.is_mandatory last more ≡ line_of line.is_mandatory last ∷ wrapped_lines room more
          → lines_from room is_first (as_one line last) more ≡ line_of is_first (as_one line last) ∷ wrapped_lines room more
          → (if b then line_of is_first line ∷ lines_from room line.is_mandatory last more else lines_from room is_first (as_one line last) more)
          ≡ (if b then line_of is_first line ∷ line_of line.is_mandatory last ∷ [] else line_of is_first (as_one line last) ∷ []) ++ wrapped_lines room more
      on true anew further = ap (λ (lines : List Line). line_of is_first line ∷ lines) anew
      on false anew further = further
  lines-split is_first line (next ∷ some) last more is =
      on (ends_before (columns_in room is_first) line next) (lines-split line.is_mandatory next some last more is) (lines-split is_first (as_one line next) some last more is)
    where
      rest : List Segment
      rest = (some ++ last ∷ []) ++ more

      first : List Segment
      first = some ++ last ∷ []

      on : (b : Bool) → lines_from room line.is_mandatory next rest ≡ lines_from room line.is_mandatory next first ++ wrapped_lines room more
          → lines_from room is_first (as_one line next) rest ≡ lines_from room is_first (as_one line next) first ++ wrapped_lines room more
          → (if b then line_of is_first line ∷ lines_from room line.is_mandatory next rest else lines_from room is_first (as_one line next) rest)
          ≡ (if b then line_of is_first line ∷ lines_from room line.is_mandatory next first else lines_from room is_first (as_one line next) first) ++ wrapped_lines room more
      on true anew further = ap (λ (lines : List Line). line_of is_first line ∷ lines) anew
      on false anew further = further

  wrapped-split : (some : List Segment) (last : Segment) (more : List Segment) → last.is_mandatory ≡ true
      → wrapped_lines room ((some ++ last ∷ []) ++ more) ≡ wrapped_lines room (some ++ last ∷ []) ++ wrapped_lines room more
  unfolding lines_from
  wrapped-split [] last more is = lines-behind true last more is
  wrapped-split (first ∷ some) last more is = lines-split true first some last more is

  wrapped-length : (segments : List Segment) → lines_length (wrapped_lines room segments) ≡ segments_length segments
  unfolding lines_length segments_length
  wrapped-length [] = refl
  wrapped-length (first ∷ segments) = length-of-lines room true first segments

-- ---- the units that they stand in

between-front : (units more : List ℕ) (from to : ℕ) → from ≤ length units → to ≤ length units → between from to (units ++ more) ≡ between from to units
between-front units more from to starts ends =
    let fits : to - from ≤ length (drop from units) = omega (arith, length-drop from units, starts, ends) in
    ap (λ (rest : List ℕ). take (to - from) rest) (drop-append-le from units more starts)
    ∙ take-append-le (to - from) (drop from units) more fits

between-back : (units more : List ℕ) (from to : ℕ) → between (length units + from) (length units + to) (units ++ more) ≡ between from to more
between-back units more from to =
    let size : (length units + to) - (length units + from) ≡ to - from = omega arith in
    ap₂ (λ (n : ℕ) (rest : List ℕ). take n rest) size
    (sym (drop-drop from (length units) (units ++ more)) ∙ ap (λ (rest : List ℕ). drop from rest) (drop-append_seam units more))

place-front : (items others : List Item) (mid end : ℕ) → mid ≡ place_of others end → place_of (items ++ others) end ≡ place_of items mid
place-front [] others mid end seam = sym seam
place-front (item ∷ items) others mid end seam = refl

module _ (units more : List ℕ) where
  text_lines-front : (items others : List Item) (mid end : ℕ) (lines later : List Line) → IsRising items mid → mid ≡ place_of others end → mid ≡ length units
      → lines_length lines ≡ length items
      → text_lines (units ++ more) (with_items end (items ++ others)) (lines ++ later)
      ≡ text_lines units (with_items mid items) lines ++ text_lines (units ++ more) (with_items end others) later
  unfolding text_lines lines_length
  text_lines-front items others mid end [] later rises seam long same =
      ap (λ (items : List Item). text_lines (units ++ more) (with_items end (items ++ others)) later) (nil_from_length items (sym same))
  text_lines-front items others mid end (line ∷ lines) later rises seam long same =
      let n : ℕ = length line.characters in
      let few : n ≤ length items = omega (arith, same) in
      let rest : drop n (items ++ others) ≡ drop n items ++ others = drop-append-le n items others few in
      let rises_on : IsRising (drop n items) mid = IsRising-drop items mid n rises in
      let from : place_of (items ++ others) end ≡ place_of items mid = place-front items others mid end seam in
      let to : place_of (drop n (items ++ others)) end ≡ place_of (drop n items) mid =
      ap (λ (items : List Item). place_of items end) rest ∙ place-front (drop n items) others mid end seam in
      let stands : between (place_of (items ++ others) end) (place_of (drop n (items ++ others)) end) (units ++ more) ≡ between (place_of items mid) (place_of (drop n items) mid) units =
      ap₂ (λ (from to : ℕ). between from to (units ++ more)) from to
      ∙ between-front units more (place_of items mid) (place_of (drop n items) mid) (omega (arith, place-within items mid rises, long)) (omega (arith, place-within (drop n items) mid rises_on, long)) in
      let left : lines_length lines ≡ length (drop n items) = omega (arith, same, length-drop n items) in
      ap₂ (λ (units' : List ℕ) (lines' : List TextLine). let first : TextLine = record { units = units'; columns = line.columns; is_first = line.is_first; is_mandatory = line.is_mandatory } in first ∷ lines') stands
      (ap (λ (items : List Item). text_lines (units ++ more) (with_items end items) (lines ++ later)) rest
      ∙ text_lines-front (drop n items) others mid end lines later rises_on seam long left)

  text_lines-later : (items : List Item) (end : ℕ) (lines : List Line)
      → text_lines (units ++ more) (with_items (length units + end) (later_items (length units) items)) lines ≡ text_lines more (with_items end items) lines
  unfolding text_lines
  text_lines-later items end [] = refl
  text_lines-later items end (line ∷ lines) =
      let n : ℕ = length line.characters in
      let rest : drop n (later_items (length units) items) ≡ later_items (length units) (drop n items) = drop-map (λ (item : Item). (length units + item.0, item.1)) n items in
      let to : place_of (drop n (later_items (length units) items)) (length units + end) ≡ length units + place_of (drop n items) end =
      ap (λ (items : List Item). place_of items (length units + end)) rest ∙ later-place (length units) end (drop n items) in
      let stands : between (place_of (later_items (length units) items) (length units + end)) (place_of (drop n (later_items (length units) items)) (length units + end)) (units ++ more)
      ≡ between (place_of items end) (place_of (drop n items) end) more =
      ap₂ (λ (from to : ℕ). between from to (units ++ more)) (later-place (length units) end items) to
      ∙ between-back units more (place_of items end) (place_of (drop n items) end) in
      ap₂ (λ (units' : List ℕ) (lines' : List TextLine). let first : TextLine = record { units = units'; columns = line.columns; is_first = line.is_first; is_mandatory = line.is_mandatory } in first ∷ lines') stands
      (ap (λ (items : List Item). text_lines (units ++ more) (with_items (length units + end) items) lines) rest ∙ text_lines-later (drop n items) end lines)

-- ---- the last boundary

-- of boundaries that rise to an end, past their beginning, it is there
last-form : (from end : ℕ) (boundaries : List Boundary) → RisesTo from boundaries end → from < end → (some : List Boundary) × (boundaries ≡ some ++ boundary end (last_status boundaries) ∷ [])
unfolding last_status
last-form from end [] rises below = absurd (omega (arith, rises, below))
last-form from end (found ∷ []) rises below = ([], ap (λ (place : ℕ). boundary place found.status ∷ []) rises.1)
last-form from end (found ∷ next ∷ boundaries) rises below =
    let later = last-form found.offset end (next ∷ boundaries) rises.1 (omega (arith, rises.1.0, rises-order next.offset end boundaries rises.1.1)) in
    (found ∷ later.0, ap (λ (rest : List Boundary). found ∷ rest) later.1)

-- ---- all together

module _ (measure : Measure) (room : Room) where
  abbrev lines_in : List ℕ → Text → List Boundary → List TextLine
  lines_in units text boundaries = text_lines units text (wrapped_lines room (segments_from measure text boundaries))

  text-parts : (units more : List ℕ) (items others : List Item) (boundaries later : List Boundary) → IsRising items (length units) → place_of others (length more) ≡ 0
      → RisesTo 0 boundaries (length units) → 0 < length units → last_status boundaries ≡ 1
      → lines_in (units ++ more) (with_items (length units + length more) (items ++ later_items (length units) others)) (boundaries ++ shift_all (length units) later)
      ≡ lines_in units (with_items (length units) items) boundaries ++ lines_in more (with_items (length more) others) later
  text-parts units more items others boundaries later rises begins climbs some is =
      let n : ℕ = length units in
      let end : ℕ = n + length more in
      let behind : List Item = later_items n others in
      let seam : n ≡ place_of behind end = omega (arith, later-place n (length more) others, begins) in
      let first : List Segment = segments_from measure (with_items n items) boundaries in
      let second : List Segment = segments_from measure (with_items (length more) others) later in
      let segments : segments_from measure (with_items end (items ++ behind)) (boundaries ++ shift_all n later) ≡ first ++ second =
      segments-front measure items behind n end 0 boundaries (shift_all n later) rises (omega arith) climbs seam
      ∙ ap (λ (segments : List Segment). first ++ segments) (segments-later measure n others (length more) later) in
      let ended = last-form 0 n boundaries climbs some in
      let must : boundaries ≡ ended.0 ++ boundary n 1 ∷ [] = ended.1 ∙ ap (λ (status : ℕ). ended.0 ++ boundary n status ∷ []) is in
      let last : EndsLine measure first =
      subst (λ (boundaries : List Boundary). EndsLine measure (segments_from measure (with_items n items) boundaries)) (sym must) (segments-last measure (with_items n items) ended.0 n) in
      let lines : wrapped_lines room (first ++ second) ≡ wrapped_lines room first ++ wrapped_lines room second =
      ap (λ (segments : List Segment). wrapped_lines room (segments ++ second)) last.2
      ∙ wrapped-split room last.0 last.1 second last.3
      ∙ ap (λ (segments : List Segment). wrapped_lines room segments ++ wrapped_lines room second) (sym last.2) in
      ap (λ (segments : List Segment). text_lines (units ++ more) (with_items end (items ++ behind)) (wrapped_lines room segments)) segments
      ∙ ap (λ (lines : List Line). text_lines (units ++ more) (with_items end (items ++ behind)) lines) lines
      ∙ text_lines-front units more items behind n end (wrapped_lines room first) (wrapped_lines room second) rises seam refl
      (wrapped-length room first ∙ segments-whole measure items n 0 boundaries rises (omega arith) climbs)
      ∙ ap (λ (lines : List TextLine). lines_in units (with_items n items) boundaries ++ lines) (text_lines-later units more others (length more) (wrapped_lines room second))

  module _ (rules : LineRules) (parts : PartsBehind (λ bytes. line_boundaries_of rules (utf8 bytes)) line_feed) (before more : List ℕ) where
    abbrev done : List ℕ
    done = before ++ line_feed

    split-items : utf8_items 0 (done ++ more) ≡ utf8_items 0 done ++ later_items (length done) (utf8_items 0 more)
    unfolding utf8_items lib.Utf8.encode
    split-items = items-split read_utf8 read_utf8-stable (0x0A ∷ []) 0x0A (utf8-apart 0x0A refl) before more

    from-start : (bytes : List ℕ) → utf8 bytes ≡ with_items (length bytes) (utf8_items 0 bytes)
    from-start bytes =
        let same : 0 + length bytes ≡ length bytes = omega arith in
        ap (λ (end : ℕ). with_items end (utf8_items 0 bytes)) same

    whole-text : utf8 (done ++ more) ≡ with_items (length done + length more) (utf8_items 0 done ++ later_items (length done) (utf8_items 0 more))
    whole-text =
        let same : 0 + length (done ++ more) ≡ length done + length more = omega (arith, length-append done more) in
        ap₂ (λ (end : ℕ) (items : List Item). with_items end items) same split-items

    rises-in : (bytes : List ℕ) → IsRising (utf8_items 0 bytes) (length bytes)
    rises-in bytes = subst (λ (text : Text). IsRising text.items text.end) (from-start bytes) (utf8-text bytes).rises

    starts-at : (bytes : List ℕ) → place_of (utf8_items 0 bytes) (length bytes) ≡ 0
    starts-at bytes = ap start_of (sym (from-start bytes)) ∙ (utf8-text bytes).start

    pub wrapped-parts : IsCover 0 (length done) (line_boundaries_of rules (utf8 done)) → last_status (line_boundaries_of rules (utf8 done)) ≡ 1
        → wrapped_within utf8 measure rules room (done ++ more) ≡ wrapped_within utf8 measure rules room done ++ wrapped_within utf8 measure rules room more
    unfolding last_status
    wrapped-parts cover must = on (line_boundaries_of rules (utf8 done)) refl cover must
      where
        some : 0 < length done
        some = omega (arith, length-append before line_feed)

        on : (found : List Boundary) → line_boundaries_of rules (utf8 done) ≡ found → IsCover 0 (length done) found → last_status found ≡ 1
            → wrapped_within utf8 measure rules room (done ++ more) ≡ wrapped_within utf8 measure rules room done ++ wrapped_within utf8 measure rules room more
        on [] same covers is = absurd covers
        on (first ∷ []) same (at, climbs) is = absurd (omega (arith, climbs, some))
        on (first ∷ next ∷ found) same (at, climbs) is =
            let later : List Boundary = drop 1 (line_boundaries_of rules (utf8 more)) in
            let boundaries : drop 1 (line_boundaries_of rules (utf8 (done ++ more))) ≡ (next ∷ found) ++ shift_all (length done) later =
            ap (drop 1) (parts before more ∙ ap (λ (found : List Boundary). found ++ shift_all (length done) later) same) in
            ap₂ (λ (text : Text) (boundaries : List Boundary). lines_in (done ++ more) text boundaries) whole-text boundaries
            ∙ text-parts done more (utf8_items 0 done) (utf8_items 0 more) (next ∷ found) later (rises-in done) (starts-at more) climbs some is
            ∙ sym (ap₂ (λ (one other : List TextLine). one ++ other)
            (ap₂ (λ (text : Text) (boundaries : List Boundary). lines_in done text boundaries) (from-start done) (ap (drop 1) same))
            (ap (λ (text : Text). lines_in more text later) (from-start more)))
