-- Certain places of texts: a cursor may start at one.
use Rattle.std.proofs.Common.{◌≡◌, ℕ, suc, ◌+◌, ◌≤◌, ◌⊎◌, List, [], ◌∷◌, ◌++◌, Contains, length, map, take, drop, cond, true, false, zero, refl, sym, ap, ap₂, ◌∙◌, subst, inl, inr, arith, append_assoc}
use Rattle.std.specs.Prelude.{IsTrue, Bool, nat_lt}
use Rattle.std.proofs.lemmas.Bool.{ltb-false}
use Rattle.std.proofs.lemmas.List.{drop-map, length-map, map-append, take-append-drop}
use Rattle.seg_text.specs.declared.boundary.Boundary.{Boundary}
use Rattle.seg_text.specs.Boundaries.{IsCover, boundaries_in, boundary_in, offsets, shift_all}
use Rattle.seg_text.specs.Items.{IsRising, Item, Text, code_points, place_of, rest_after, start_of}
use Rattle.seg_text.proofs.Places.{in-shift}
use Rattle.seg_clusters.specs.Certain.{AlwaysBreaks, BeginsBetween, above}
use Rattle.seg_clusters.specs.Rules.{PartsBehind}
use Rattle.seg_text.proofs.LaterItems.{later-codes, later-place}
use Rattle.seg_segments.specs.declared.cursor.certain.Start.{Start}
use Rattle.seg_segments.specs.NearBoundaries.{IsPart, IsTold, MayBegin, boundaries_of_units, line_feed, places_of_units}
use Rattle.seg_segments.specs.TextSegments.{IsPlace, later_text}
use Rattle.seg_segments.proofs.Nearest.{has-none, has-cases, has-here, has-later}
use Rattle.seg_segments.proofs.Parts.{among-all, behind-first, has-mapped, line-part, mapped-has, start-part}

-- ---- a certain place is one of a text's boundaries

-- boundaries of a text stand at the places after so many items
places-in : (text : Text) (found : List Boundary) → offsets (map (boundary_in text) found) ≡ map (λ (n : ℕ). start_of (rest_after n text)) (offsets found)
places-in text [] = refl
places-in text (one ∷ found) = ap (λ (places : List ℕ). start_of (rest_after one.offset text) ∷ places) (places-in text found)

-- what was read last of a text's items: two, before those that are left
pub record ReadsTwo (text : Text) (before one : ℕ) (left : Text) : Type 0 where
  pub earlier : List Item
  pub place : ℕ
  pub other_place : ℕ
  pub items : text.items ≡ earlier ++ (place, before) ∷ (other_place, one) ∷ left.items
  pub end : left.end ≡ text.end

items-behind : (earlier : List Item) (a b : Item) (later : List Item) → drop (suc (suc (length earlier))) (earlier ++ a ∷ b ∷ later) ≡ later
items-behind [] a b later = refl
items-behind (item ∷ earlier) a b later = items-behind earlier a b later

-- the item that is read next
module _ (text left : Text) (later : List Item) (before one at other : ℕ) (read : ReadsTwo text before one left) (next : left.items ≡ (at, other) ∷ later) where
  abbrev count : ℕ
  count = length (code_points read.earlier) + 2

  items-is : text.items ≡ read.earlier ++ (read.place, before) ∷ (read.other_place, one) ∷ (at, other) ∷ later
  items-is = read.items ∙ ap (λ (rest : List Item). read.earlier ++ (read.place, before) ∷ (read.other_place, one) ∷ rest) next

  codes-are : code_points text.items ≡ code_points read.earlier ++ before ∷ one ∷ other ∷ code_points later
  codes-are =
      ap code_points items-is
      ∙ map-append (λ (item : Item). item.1) read.earlier ((read.place, before) ∷ (read.other_place, one) ∷ (at, other) ∷ later)

  rest-is : drop count text.items ≡ (at, other) ∷ later
  rest-is =
      let two : count ≡ suc (suc (length read.earlier)) = omega (arith, length-map read.earlier (λ (item : Item). item.1)) in
      ap₂ (λ (n : ℕ) (items : List Item). drop n items) two items-is
      ∙ items-behind read.earlier (read.place, before) (read.other_place, one) ((at, other) ∷ later)

  here : start_of (rest_after count text) ≡ at
  here = ap (λ (items : List Item). place_of items text.end) rest-is

  -- it stands at a boundary
  pub certain-here : (find : List ℕ → List Boundary) → AlwaysBreaks find before one other → Contains (offsets (boundaries_in find text)) at
  certain-here find always =
      let there : Contains (offsets (find (code_points text.items))) count =
      subst (λ (codes : List ℕ). Contains (offsets (find codes)) count) (sym codes-are) (always (code_points read.earlier) (code_points later)) in
      subst (λ (places : List ℕ). Contains places at) (sym (places-in text (find (code_points text.items))))
      (subst (Contains (map (λ (n : ℕ). start_of (rest_after n text)) (offsets (find (code_points text.items))))) here
      (has-mapped (λ (n : ℕ). start_of (rest_after n text)) (offsets (find (code_points text.items))) count there))

  -- above it stand the boundaries that what is left has alone
  begins-here : (find : List ℕ → List Boundary) → BeginsBetween find before one other
      → above count (find (code_points text.items)) ≡ shift_all count (drop 1 (find (code_points (drop count text.items))))
  begins-here find begins =
      ap (λ (codes : List ℕ). above count (find codes)) codes-are
      ∙ begins (code_points read.earlier) (code_points later)
      ∙ ap (λ (items : List Item). shift_all count (drop 1 (find (code_points items)))) (sym rest-is)

-- what is left where a cursor went on to the place of an item
pub sought : (text old new : Text) (from : ℕ) → old ≡ text → ((k : ℕ) → from ≡ start_of (rest_after k old) → new ≡ rest_after k old)
    → (from ≡ 0) ⊎ IsPlace text from → start_of text ≡ 0 → (k : ℕ) × (new ≡ rest_after k text)
sought text old new from is goes (inl start) first =
    (0, goes 0 (start ∙ sym first ∙ ap start_of (sym is)) ∙ ap (rest_after 0) is)
sought text old new from is goes (inr place) first =
    let k = place.before in (k, goes k (place.at ∙ ap (λ (text : Text). start_of (rest_after k text)) (sym is)) ∙ ap (rest_after k) is)

-- the first two of some items that are left
pub reads-first : (text : Text) (k : ℕ) (from second left : Text) (a b : Item) → from ≡ rest_after k text → from.items ≡ a ∷ second.items → second.items ≡ b ∷ left.items
    → second.end ≡ from.end → left.end ≡ second.end → ReadsTwo text a.1 b.1 left
reads-first text k from second left a b is first next end_second end_left = record {
  earlier = take k text.items;
  place = a.0;
  other_place = b.0;
  items = sym (take-append-drop k text.items)
      ∙ ap (λ (rest : List Item). take k text.items ++ rest) (sym (ap (λ (text : Text). text.items) is) ∙ first ∙ ap (λ (rest : List Item). a ∷ rest) next);
  end = end_left ∙ end_second ∙ ap (λ (text : Text). text.end) is;
}

-- one item further
pub reads-next : (text : Text) (before one at other : ℕ) (left later : Text) → ReadsTwo text before one left → left.items ≡ (at, other) ∷ later.items → later.end ≡ left.end
    → ReadsTwo text one other later
reads-next text before one at other left later read next end = record {
  earlier = read.earlier ++ (read.place, before) ∷ [];
  place = read.other_place;
  other_place = at;
  items = read.items ∙ ap (λ (rest : List Item). read.earlier ++ (read.place, before) ∷ (read.other_place, one) ∷ rest) next
      ∙ sym (append_assoc read.earlier ((read.place, before) ∷ []) ((read.other_place, one) ∷ (at, other) ∷ later.items));
  end = end ∙ read.end;
}

-- ---- the part from a place on where all is as alone

later-places : (before : ℕ) (text : Text) (counted : List Boundary)
    → offsets (map (boundary_in (later_text before text)) counted) ≡ map (λ (place : ℕ). before + place) (offsets (map (boundary_in text) counted))
later-places before text [] = refl
later-places before text (one ∷ counted) =
    ap₂ (λ (place : ℕ) (places : List ℕ). place ∷ places)
    (ap (λ (items : List Item). place_of items (before + text.end)) (drop-map (λ (item : Item). (before + item.0, item.1)) one.offset text.items)
    ∙ later-place before text.end (drop one.offset text.items))
    (later-places before text counted)

-- later items begin later
places-rise : (items : List Item) (end m n : ℕ) → IsRising items end → m ≤ n → place_of (drop m items) end ≤ place_of (drop n items) end
places-rise items end zero zero rising order = omega arith
places-rise items end (suc m) zero rising order = absurd (omega (arith, order))
places-rise [] end zero (suc n) rising order = omega arith
places-rise [] end (suc m) (suc n) rising order = omega arith
places-rise (item ∷ items) end zero (suc n) rising order = omega (arith, rising.0, places-rise items end zero n rising.1 (omega arith))
places-rise (item ∷ items) end (suc m) (suc n) rising order = places-rise items end m n rising.1 (omega (arith, order))

module _ (text : Text) (count : ℕ) where
  above-among : (counted : List Boundary) (place : ℕ) → Contains (offsets (map (boundary_in text) (above count counted))) place
      → Contains (offsets (map (boundary_in text) counted)) place
  above-among [] place has = has
  above-among (one ∷ counted) place has = on (nat_lt count one.offset) has (above-among counted place)
    where
      on : (b : Bool) → Contains (offsets (map (boundary_in text) (cond b (one ∷ above count counted) (above count counted)))) place
          → (Contains (offsets (map (boundary_in text) (above count counted))) place → Contains (offsets (map (boundary_in text) counted)) place)
          → Contains (start_of (rest_after one.offset text) ∷ offsets (map (boundary_in text) counted)) place
      on true has rest =
          elim (has-cases (start_of (rest_after one.offset text)) (offsets (map (boundary_in text) (above count counted))) place has) [
            | inl is ↦ subst (Contains (start_of (rest_after one.offset text) ∷ offsets (map (boundary_in text) counted))) is (has-here _ _)
            | inr later ↦ has-later _ _ place (rest later)
          ]
      on false has rest = has-later _ _ place (rest has)

  among-above : IsRising text.items text.end → (counted : List Boundary) (place : ℕ) → Contains (offsets (map (boundary_in text) counted)) place
      → (place ≤ start_of (rest_after count text)) ⊎ Contains (offsets (map (boundary_in text) (above count counted))) place
  among-above rising [] place has = absurd (has-none place has)
  among-above rising (one ∷ counted) place has =
      elim (has-cases (start_of (rest_after one.offset text)) (offsets (map (boundary_in text) counted)) place has) [
        | inl is ↦ here (nat_lt count one.offset) refl is
        | inr later ↦ elim (among-above rising counted place later) [
          | inl early ↦ inl early
          | inr late ↦ inr (there (nat_lt count one.offset) late)
        ]
      ]
    where
      here : (b : Bool) → nat_lt count one.offset ≡ b → start_of (rest_after one.offset text) ≡ place
          → (place ≤ start_of (rest_after count text))
          ⊎ Contains (offsets (map (boundary_in text) (cond b (one ∷ above count counted) (above count counted)))) place
      here true test is =
          inr (subst (Contains (start_of (rest_after one.offset text) ∷ offsets (map (boundary_in text) (above count counted)))) is (has-here _ _))
      here false test is =
          inl (omega (arith, is, places-rise text.items text.end one.offset count rising (ltb-false count one.offset test)))

      there : (b : Bool) → Contains (offsets (map (boundary_in text) (above count counted))) place
          → Contains (offsets (map (boundary_in text) (cond b (one ∷ above count counted) (above count counted)))) place
      there true late = has-later _ _ place late
      there false late = late

module _ (find : List ℕ → List Boundary) (decode : List ℕ → Text) (units : List ℕ) (count : ℕ)
    (rests : rest_after count (decode units) ≡ later_text (start_of (rest_after count (decode units))) (decode (drop (start_of (rest_after count (decode units))) units)))
    (rising : IsRising (decode units).items (decode units).end)
    (is : above count (find (code_points (decode units).items)) ≡ shift_all count (drop 1 (find (code_points (drop count (decode units).items))))) where
  abbrev text : Text
  text = decode units

  abbrev from : ℕ
  from = start_of (rest_after count text)

  abbrev rest : Text
  rest = decode (drop from units)

  above-places : offsets (map (boundary_in text) (above count (find (code_points text.items)))) ≡ map (λ (place : ℕ). from + place) (drop 1 (offsets (boundaries_in find rest)))
  above-places =
      let codes : code_points (drop count text.items) ≡ code_points rest.items = ap (λ (left : Text). code_points left.items) rests ∙ later-codes from rest.items in
      let counted = drop 1 (find (code_points rest.items)) in
      ap (λ (counted : List Boundary). offsets (map (boundary_in text) counted)) (is ∙ ap (λ (codes : List ℕ). shift_all count (drop 1 (find codes))) codes)
      ∙ ap offsets (in-shift text count counted)
      ∙ ap (λ (left : Text). offsets (map (boundary_in left) counted)) rests
      ∙ later-places from rest counted
      ∙ ap (λ (found : List Boundary). map (λ (place : ℕ). from + place) (offsets found)) (sym (drop-map (boundary_in rest) 1 (find (code_points rest.items))))
      ∙ ap (map (λ (place : ℕ). from + place)) (sym (behind-first (boundaries_in find rest)))

  part-alone : IsPart (places_of_units decode find units) from (places_of_units decode find (drop from units))
  part-alone = record {
    among = λ place has.
        above-among text count (find (code_points text.items)) (from + place)
        (subst (λ (places : List ℕ). Contains places (from + place)) (sym above-places)
        (has-mapped (λ (place : ℕ). from + place) (drop 1 (offsets (boundaries_in find rest))) place has));
    all = λ place has.
        elim (among-above text count rising (find (code_points text.items)) place has) [
          | inl early ↦ inl early
          | inr late ↦
              let found =
              mapped-has (λ (place : ℕ). from + place) (drop 1 (offsets (boundaries_in find rest))) place (subst (λ (places : List ℕ). Contains places place) above-places late) in
              inr (found.0, among-all (offsets (boundaries_in find rest)) found.0 found.1, found.2)
        ];
  }

-- the part from an item on that is read next, where what begins with it is as alone
pub part-begins : (find : List ℕ → List Boundary) (decode : List ℕ → Text) (units : List ℕ) (left : Text) (later : List Item) (before one at other : ℕ)
    → ((count : ℕ) → let from = start_of (rest_after count (decode units)) in rest_after count (decode units) ≡ later_text from (decode (drop from units)))
    → IsRising (decode units).items (decode units).end → ReadsTwo (decode units) before one left → left.items ≡ (at, other) ∷ later → BeginsBetween find before one other
    → IsPart (places_of_units decode find units) at (places_of_units decode find (drop at units))
part-begins find decode units left later before one at other rests rising read next begins =
    let n = length (code_points read.earlier) + 2 in
    subst (λ (from : ℕ). IsPart (places_of_units decode find units) from (places_of_units decode find (drop from units)))
    (here (decode units) left later before one at other read next)
    (part-alone find decode units n (rests n) rising (begins-here (decode units) left later before one at other read next find begins))

-- what the item that is read next tells
pub told-here : (find : List ℕ → List Boundary) (decode : List ℕ → Text) (units : List ℕ) (left : Text) (later : List Item) (before one at other : ℕ) (is_boundary : Bool)
    → ((count : ℕ) → let from = start_of (rest_after count (decode units)) in rest_after count (decode units) ≡ later_text from (decode (drop from units)))
    → IsRising (decode units).items (decode units).end → ReadsTwo (decode units) before one left → left.items ≡ (at, other) ∷ later
    → (IsTrue is_boundary → AlwaysBreaks find before one other) → BeginsBetween find before one other → IsTold decode find units (record { place = at; is_boundary = is_boundary })
told-here find decode units left later before one at other is_boundary rests rising read next breaks begins = (
  part-begins find decode units left later before one at other rests rising read next begins,
  λ known. certain-here (decode units) left later before one at other read next find (breaks known),
)

-- ---- the part from a place on at which a search may begin

module _ (decode : List ℕ → Text) (find : List ℕ → List Boundary) (has_parts : Bool) (units first part : List ℕ) (start : Start)
    (parts : IsTrue has_parts → PartsBehind (boundaries_of_units decode find) line_feed)
    (is_first : first ≡ take start.place units) (is_part : part ≡ drop start.place units) (whole : IsCover 0 (length units) (boundaries_of_units decode find units))
    (covers : IsCover 0 (length first) (boundaries_of_units decode find first)) where
  pub part-from : MayBegin decode find has_parts units start → IsPart (places_of_units decode find units) start.place (places_of_units decode find part)
  part-from (inl at_start) = (start-part decode find units part start.place at_start is_part whole).0
  part-from (inr (inl (may, begins))) = (line-part decode find units first part start.place is_first is_part begins (parts may) whole covers).0
  part-from (inr (inr (alone, known))) =
      subst (λ (text : List ℕ). IsPart (places_of_units decode find units) start.place (places_of_units decode find text)) (sym is_part) alone

  pub boundary-from : MayBegin decode find has_parts units start → IsTrue start.is_boundary → Contains (places_of_units decode find units) start.place
  boundary-from (inl at_start) known = (start-part decode find units part start.place at_start is_part whole).1
  boundary-from (inr (inl (may, begins))) known = (line-part decode find units first part start.place is_first is_part begins (parts may) whole covers).1
  boundary-from (inr (inr (alone, at))) known = at known
