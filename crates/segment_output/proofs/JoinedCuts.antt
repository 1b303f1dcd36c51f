-- The lines of a text's segments are those of its first part, and then those of the second, so much later.
use Rattle.std.proofs.Common.{◌≡◌, ℕ, ◌+◌, ◌-◌, ◌≤◌, ◌⊎◌, inl, inr, Bool, true, false, cond, nat_le, List, [], ◌∷◌, ◌++◌, Contains, length, take, drop, map, refl, sym, ap, ap₂, subst, ◌∙◌, arith, length-append}
use Rattle.std.proofs.lemmas.Bool.{le-leb, lt-leb}
use Rattle.std.proofs.lemmas.List.{drop-append-le, drop-drop, length-drop, length-map, take-append-le}
use Rattle.std.proofs.lemmas.List.Concat.{flat_map-append}
use Rattle.std.proofs.Math.Seq.{drop-append_seam}
use Rattle.std.specs.List.{flat_map, slice_range}
use Rattle.json.specs.Print.{print}
use Rattle.icu_segmenter.specs.Boundary.{Boundary}
use Rattle.icu_segmenter.specs.Boundaries.{IsCover, RisesTo, offsets, shift_all}
use Rattle.icu_segmenter.specs.NearBoundaries.{up_to}
use Rattle.icu_segmenter.proofs.Callers.{has-cases, has-none}
use Rattle.segment_text.specs.Escapes.{escaped}
use Rattle.segment_output.specs.Output.{Look, Segment, is_shown, later, line_at, line_in, line_of, line_with, lines_at, lines_of, object_of}
use Rattle.segment_output.specs.declared.marks.Mark.{Mark}
use Rattle.segment_output.specs.declared.output.Style.{Style}
use Rattle.segment_output.specs.declared.output.Style.TheVariants.{Escaped, Raw, ZeroEnded, Json, Offsets, Counted}

-- ---- boundaries that rise

pub rises-order : (from end : ℕ) (boundaries : List Boundary) → RisesTo from boundaries end → from ≤ end
rises-order from end [] rises = omega (arith, rises)
rises-order from end (found ∷ boundaries) rises = omega (arith, rises.0, rises-order found.offset end boundaries rises.1)

rises-append : (from mid end : ℕ) (first second : List Boundary) → RisesTo from first mid → RisesTo mid second end → RisesTo from (first ++ second) end
rises-append from mid end [] second rises others = subst (λ (place : ℕ). RisesTo place second end) (sym rises) others
rises-append from mid end (found ∷ first) second rises others = (rises.0, rises-append found.offset mid end first second rises.1 others)

rises-shift : (n from end : ℕ) (boundaries : List Boundary) → RisesTo from boundaries end → RisesTo (n + from) (shift_all n boundaries) (n + end)
rises-shift n from end [] rises = ap (λ (place : ℕ). n + place) rises
rises-shift n from end (found ∷ boundaries) rises = (omega (arith, rises.0), rises-shift n found.offset end boundaries rises.1)

pub cover-joined : (n m : ℕ) (first second : List Boundary) → IsCover 0 n first → IsCover 0 m second
    → IsCover 0 (n + m) (first ++ shift_all n (drop 1 second))
cover-joined n m [] second covers cover = absurd covers
cover-joined n m (x ∷ first) [] covers cover = absurd cover
cover-joined n m (x ∷ first) (y ∷ second) covers cover =
    let none : n + 0 ≡ n = omega arith in
    (covers.0, rises-append 0 n (n + m) first (shift_all n second) covers.1 (subst (λ (place : ℕ). RisesTo place (shift_all n second) (n + m)) none (rises-shift n 0 m second cover.1)))

-- ---- boundaries up to a place

none-up-to : (from end place : ℕ) (boundaries : List Boundary) → RisesTo from boundaries end → place ≤ from → up_to place boundaries ≡ []
none-up-to from end place [] rises below = refl
none-up-to from end place (found ∷ boundaries) rises below =
    rw (lt-leb found.offset place (omega (arith, below, rises.0))) (none-up-to found.offset end place boundaries rises.1 (omega (arith, below, rises.0)))

rises-below : (from end place : ℕ) (boundaries : List Boundary) → RisesTo from boundaries end → Contains (offsets boundaries) place → from ≤ place
rises-below from end place [] rises has = absurd (has-none place has)
rises-below from end place (next ∷ boundaries) rises has =
    elim (has-cases next.offset (offsets boundaries) place has) [
      | inl here ↦ omega (arith, here, rises.0)
      | inr later ↦ omega (arith, rises.0, rises-below next.offset end place boundaries rises.1 later)
    ]

-- they rise to the place, where one stands there
rises-up-to : (from end place : ℕ) (boundaries : List Boundary) → RisesTo from boundaries end → (from ≡ place) ⊎ Contains (offsets boundaries) place
    → RisesTo from (up_to place boundaries) place
rises-up-to from end place boundaries rises (inl here) = subst (λ (found : List Boundary). RisesTo from found place) (sym (none-up-to from end place boundaries rises (omega (arith, here)))) here
rises-up-to from end place [] rises (inr has) = absurd (has-none place has)
rises-up-to from end place (found ∷ boundaries) rises (inr has) =
    let there = has-cases found.offset (offsets boundaries) place has in
    let test : nat_le found.offset place ≡ true = le-leb found.offset place (above there) in
    rw test (rises.0, rises-up-to found.offset end place boundaries rises.1 there)
  where
    above : (found.offset ≡ place) ⊎ Contains (offsets boundaries) place → found.offset ≤ place
    above (inl here) = omega (arith, here)
    above (inr later) = rises-below found.offset end place boundaries rises.1 later

pub cover-up-to : (end place : ℕ) (boundaries : List Boundary) → IsCover 0 end boundaries → Contains (offsets boundaries) place → IsCover 0 place (up_to place boundaries)
cover-up-to end place [] cover has = absurd cover
cover-up-to end place (found ∷ boundaries) cover has =
    let test : nat_le found.offset place ≡ true = le-leb found.offset place (omega (arith, cover.0)) in
    rw test (
      cover.0,
      rises-up-to 0 end place boundaries cover.1
          (elim (has-cases found.offset (offsets boundaries) place has) [
            | inl here ↦ inl (omega (arith, here, cover.0))
            | inr later ↦ inr later
          ]),
    )

-- ---- segments from a place on, up to each boundary where one ends that is shown

abbrev segment_at : (ℕ → Mark) → ℕ → Boundary → Segment
segment_at mark start found = record { from = start; to = found.offset; mark = mark found.status }

abbrev pub cut_from : Bool → (ℕ → Mark) → ℕ → List Boundary → List Segment
cut_from alone mark start [] = []
cut_from alone mark start (found ∷ boundaries) =
    cond (is_shown alone (mark found.status)) (segment_at mark start found ∷ cut_from alone mark found.offset boundaries) (cut_from alone mark found.offset boundaries)

abbrev pub cut_all : Bool → (ℕ → Mark) → List Boundary → List Segment
cut_all alone mark [] = []
cut_all alone mark (found ∷ boundaries) = cut_from alone mark found.offset boundaries

append-kept : (is : Bool) (segment : Segment) (all some more : List Segment) → all ≡ some ++ more → cond is (segment ∷ all) all ≡ cond is (segment ∷ some) some ++ more
append-kept true segment all some more same = ap (λ segments. segment ∷ segments) same
append-kept false segment all some more same = same

cut-append : (alone : Bool) (mark : ℕ → Mark) (start end : ℕ) (first second : List Boundary) → RisesTo start first end
    → cut_from alone mark start (first ++ second) ≡ cut_from alone mark start first ++ cut_from alone mark end second
cut-append alone mark start end [] second rises = ap (λ (place : ℕ). cut_from alone mark place second) rises
cut-append alone mark start end (found ∷ first) second rises =
    append-kept (is_shown alone (mark found.status)) (segment_at mark start found) _ _ _ (cut-append alone mark found.offset end first second rises.1)

shift-kept : (is : Bool) (n : ℕ) (segment : Segment) (all some : List Segment) → all ≡ map (later n) some
    → cond is (later n segment ∷ all) all ≡ map (later n) (cond is (segment ∷ some) some)
shift-kept true n segment all some same = ap (λ segments. later n segment ∷ segments) same
shift-kept false n segment all some same = same

cut-shift : (alone : Bool) (mark : ℕ → Mark) (n start : ℕ) (boundaries : List Boundary)
    → cut_from alone mark (n + start) (shift_all n boundaries) ≡ map (later n) (cut_from alone mark start boundaries)
cut-shift alone mark n start [] = refl
cut-shift alone mark n start (found ∷ boundaries) = shift-kept (is_shown alone (mark found.status)) n (segment_at mark start found) _ _ (cut-shift alone mark n found.offset boundaries)

-- whatever boundaries come after those of the first part, the segments are those from the start on
pub cut-begun : (alone : Bool) (mark : ℕ → Mark) (n : ℕ) (first more : List Boundary) → IsCover 0 n first
    → cut_all alone mark (first ++ more) ≡ cut_from alone mark 0 (drop 1 (first ++ more))
cut-begun alone mark n [] more covers = absurd covers
cut-begun alone mark n (x ∷ first) more covers = ap (λ (place : ℕ). cut_from alone mark place (first ++ more)) covers.0

pub cut-whole : (alone : Bool) (mark : ℕ → Mark) (n : ℕ) (boundaries : List Boundary) → IsCover 0 n boundaries → cut_all alone mark boundaries ≡ cut_from alone mark 0 (drop 1 boundaries)
cut-whole alone mark n [] covers = absurd covers
cut-whole alone mark n (x ∷ boundaries) covers = ap (λ (place : ℕ). cut_from alone mark place boundaries) covers.0

-- the segments of the first part, and then those of the second, so much later, whatever its first boundary is
cut-later : (alone : Bool) (mark : ℕ → Mark) (n : ℕ) (first second : List Boundary) → IsCover 0 n first
    → cut_from alone mark 0 (drop 1 (first ++ shift_all n (drop 1 second))) ≡ cut_all alone mark first ++ map (later n) (cut_from alone mark 0 (drop 1 second))
cut-later alone mark n [] second covers = absurd covers
cut-later alone mark n (x ∷ first) second covers =
    let more : List Boundary = drop 1 second in
    let at : n ≡ n + 0 = omega arith in
    cut-append alone mark 0 n first (shift_all n more) covers.1
    ∙ ap₂ (λ (segments others : List Segment). segments ++ others) (ap (λ (place : ℕ). cut_from alone mark place first) (sym covers.0))
    (ap (λ (place : ℕ). cut_from alone mark place (shift_all n more)) at ∙ cut-shift alone mark n 0 more)

-- ---- what is written of them

slice-front : (done more : List ℕ) (from to : ℕ) → from ≤ to → to ≤ length done → slice_range (done ++ more) from to ≡ slice_range done from to
slice-front done more from to order within =
    let starts : from ≤ length done = omega (arith, order, within) in
    let ends : to - from ≤ length (drop from done) = omega (arith, length-drop from done, order, within) in
    ap (λ (bytes : List ℕ). take (to - from) bytes) (drop-append-le from done more starts)
    ∙ take-append-le (to - from) (drop from done) more ends

slice-back : (done part : List ℕ) (from to : ℕ) → slice_range (done ++ part) (length done + from) (length done + to) ≡ slice_range part from to
slice-back done part from to =
    let size : (length done + to) - (length done + from) ≡ to - from = omega arith in
    ap₂ (λ (count : ℕ) (bytes : List ℕ). take count bytes) size
    (sym (drop-drop from (length done) (done ++ part)) ∙ ap (λ (bytes : List ℕ). drop from bytes) (drop-append_seam done part))

-- what is written of a segment, where these are shown as its places
line-front : (look : Look) (done more : List ℕ) (segment shown : Segment) → segment.from ≤ segment.to → segment.to ≤ length done
    → line_with look (done ++ more) segment shown ≡ line_with look done segment shown
line-front look done more segment shown order within = on look.style
  where
    on : (style : Style) → line_in style look.file (done ++ more) segment shown ≡ line_in style look.file done segment shown
    on Escaped = ap (λ (bytes : List ℕ). escaped bytes ++ 10 ∷ []) (slice-front done more segment.from segment.to order within)
    on Raw = ap (λ (bytes : List ℕ). bytes ++ 10 ∷ []) (slice-front done more segment.from segment.to order within)
    on ZeroEnded = ap (λ (bytes : List ℕ). bytes ++ 0 ∷ []) (slice-front done more segment.from segment.to order within)
    on Json = ap (λ (bytes : List ℕ). print (object_of look.file bytes shown) ++ 10 ∷ []) (slice-front done more segment.from segment.to order within)
    on Offsets = refl
    on (Counted numbers) = refl

line-back : (look : Look) (done part : List ℕ) (segment shown : Segment) → line_with look (done ++ part) (later (length done) segment) shown ≡ line_with look part segment shown
line-back look done part segment shown = on look.style
  where
    on : (style : Style) → line_in style look.file (done ++ part) (later (length done) segment) shown ≡ line_in style look.file part segment shown
    on Escaped = ap (λ (bytes : List ℕ). escaped bytes ++ 10 ∷ []) (slice-back done part segment.from segment.to)
    on Raw = ap (λ (bytes : List ℕ). bytes ++ 10 ∷ []) (slice-back done part segment.from segment.to)
    on ZeroEnded = ap (λ (bytes : List ℕ). bytes ++ 0 ∷ []) (slice-back done part segment.from segment.to)
    on Json = ap (λ (bytes : List ℕ). print (object_of look.file bytes shown) ++ 10 ∷ []) (slice-back done part segment.from segment.to)
    on Offsets = refl
    on (Counted numbers) = refl

later-twice : (n m : ℕ) (segment : Segment) → later n (later m segment) ≡ later (n + m) segment
later-twice n m segment =
    let starts : n + (m + segment.from) ≡ n + m + segment.from = omega arith in
    let ends : n + (m + segment.to) ≡ n + m + segment.to = omega arith in
    rw (starts, ends) refl

-- behind nothing places are those of the whole text
line-at_zero : (look : Look) (text : List ℕ) (segment : Segment) → line_at look 0 text segment ≡ line_of look text segment
line-at_zero look text segment =
    let starts : 0 + segment.from ≡ segment.from = omega arith in
    let ends : 0 + segment.to ≡ segment.to = omega arith in
    rw (starts, ends) refl

pub lines-at_zero : (look : Look) (text : List ℕ) (segments : List Segment) → lines_at look 0 text segments ≡ lines_of look text segments
lines-at_zero look text [] = refl
lines-at_zero look text (segment ∷ segments) = ap₂ (λ (line lines : List ℕ). line ++ lines) (line-at_zero look text segment) (lines-at_zero look text segments)

lines-kept : (f g : Segment → List ℕ) (is : Bool) (segment : Segment) (segments : List Segment) → f segment ≡ g segment → flat_map f segments ≡ flat_map g segments
    → flat_map f (cond is (segment ∷ segments) segments) ≡ flat_map g (cond is (segment ∷ segments) segments)
lines-kept f g true segment segments one others = ap₂ (λ (line lines : List ℕ). line ++ lines) one others
lines-kept f g false segment segments one others = others

-- what stands before a part is the whole text before it
module _ (look : Look) (before : ℕ) (alone : Bool) (mark : ℕ → Mark) (done rest : List ℕ) where
  lines-front : (start : ℕ) (boundaries : List Boundary) → RisesTo start boundaries (length done)
      → lines_at look before (done ++ rest) (cut_from alone mark start boundaries) ≡ lines_at look before done (cut_from alone mark start boundaries)
  lines-front start [] rises = refl
  lines-front start (found ∷ boundaries) rises =
      let order : start ≤ found.offset = omega (arith, rises.0) in
      let within : found.offset ≤ length done = rises-order found.offset (length done) boundaries rises.1 in
      let segment : Segment = segment_at mark start found in
      lines-kept (line_at look before (done ++ rest)) (line_at look before done) (is_shown alone (mark found.status)) segment (cut_from alone mark found.offset boundaries)
      (line-front look done rest segment (later before segment) order within) (lines-front found.offset boundaries rises.1)

  pub lines-front_all : (boundaries : List Boundary) → IsCover 0 (length done) boundaries
      → lines_at look before (done ++ rest) (cut_all alone mark boundaries) ≡ lines_at look before done (cut_all alone mark boundaries)
  lines-front_all [] covers = absurd covers
  lines-front_all (x ∷ boundaries) covers =
      lines-front x.offset boundaries (subst (λ (place : ℕ). RisesTo place boundaries (length done)) (sym covers.0) covers.1)

  lines-back : (segments : List Segment) → lines_at look before (done ++ rest) (map (later (length done)) segments) ≡ lines_at look (before + length done) rest segments
  lines-back [] = refl
  lines-back (segment ∷ segments) =
      ap₂ (λ (line lines : List ℕ). line ++ lines)
      (line-back look done rest segment (later before (later (length done) segment)) ∙ ap (λ (shown : Segment). line_with look rest segment shown) (later-twice before (length done) segment))
      (lines-back segments)

  module _ (first second : List Boundary) (covers : IsCover 0 (length done) first) where
    abbrev all : List Boundary
    all = first ++ shift_all (length done) (drop 1 second)

    joined : cut_from alone mark 0 (drop 1 all) ≡ cut_all alone mark first ++ map (later (length done)) (cut_from alone mark 0 (drop 1 second))
    joined = cut-later alone mark (length done) first second covers

    pub lines-joined : lines_at look before (done ++ rest) (cut_from alone mark 0 (drop 1 all))
        ≡ lines_at look before done (cut_all alone mark first) ++ lines_at look (before + length done) rest (cut_from alone mark 0 (drop 1 second))
    lines-joined =
        ap (λ (segments : List Segment). lines_at look before (done ++ rest) segments) joined
        ∙ flat_map-append (line_at look before (done ++ rest)) (cut_all alone mark first) (map (later (length done)) (cut_from alone mark 0 (drop 1 second)))
        ∙ ap₂ (λ (lines others : List ℕ). lines ++ others) (lines-front_all first covers) (lines-back (cut_from alone mark 0 (drop 1 second)))

    pub count-joined : length (cut_from alone mark 0 (drop 1 all)) ≡ length (cut_all alone mark first) + length (cut_from alone mark 0 (drop 1 second))
    count-joined =
        ap (λ (segments : List Segment). length segments) joined
        ∙ length-append (cut_all alone mark first) (map (later (length done)) (cut_from alone mark 0 (drop 1 second)))
        ∙ ap (λ (count : ℕ). length (cut_all alone mark first) + count) (length-map {B = Segment} (cut_from alone mark 0 (drop 1 second)) (later (length done)))
