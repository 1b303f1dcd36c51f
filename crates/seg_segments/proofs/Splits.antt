-- A text that comes part by part: what is decided of it before the rest has come, and where it may be split.
use Rattle.std.proofs.Common.{◌≡◌, ℕ, zero, suc, ◌+◌, ◌-◌, ◌<◌, ◌≤◌, min, Bool, true, false, nat_le, nat_lt, inl, inr, List, [], ◌∷◌, ◌++◌, map, take, drop, get_or, length, refl, sym, ap, ap₂, ◌∙◌, subst, subst₂, arith, append_assoc, append-nil, length-append, take_at, drop_at}
use Rattle.std.specs.Prelude.{◌&&◌, ◌⊎◌, IfSome, Option, Some, find, if◌then◌else◌}
use Rattle.std.specs.Option.{option_map_or}
use Rattle.std.proofs.lemmas.Bool.{lt-ltb, le-ltb, ltb-true, ltb-false, le-leb, lt-leb}
use Rattle.std.proofs.lemmas.List.{drop-append-le, drop-drop, drop-map, drop-take, drop_all, length-drop, length-map, length-take-le, map-append}
use Rattle.std.proofs.lemmas.List.Elements.{filter-append}
use Rattle.seg_text.specs.declared.boundary.Boundary.{Boundary}
use Rattle.seg_text.specs.Items.{IsRising, Item, Reader, Reading, Rest, Text, code_points, items_by, place_of, rest_after, start_of, text_by}
use Rattle.seg_text.specs.Boundaries.{IsCover, RisesTo, boundaries_in, boundary, boundary_in, shift_all}
use Rattle.seg_text.specs.Decoding.{Ranges, fitting, read_row, read_utf8, rows, utf8, utf8_from, utf8_items}
use Rattle.seg_text.specs.Lemmas.Readers.{IsStable, items_by-cons, items_by-nil, items_by-rises, place_of-items_by}
use Rattle.seg_text.specs.Lemmas.Utf8Stable.{read_utf8-stable}
use Rattle.seg_text.proofs.Covers.{rises-le}
use Rattle.seg_text.proofs.Places.{IsRising-drop, in-append, in-shift}
use Rattle.seg_clusters.proofs.Begins.{last-later}
use Rattle.seg_clusters.specs.Certain.{AlwaysBreaks, SplitsBetween, without_last}
use Rattle.seg_text.proofs.LaterItems.{items-later, later-codes, later-place}
use Rattle.seg_clusters.proofs.SplitItems.{place-front}
use Rattle.seg_segments.specs.TextSegments.{IsPlace}
use Rattle.seg_segments.specs.NearBoundaries.{SplitsAt, boundaries_of_units, up_to}
use Rattle.seg_segments.proofs.Certain.{ReadsTwo, certain-here, reads-next}

-- ---- what is read before more has come

-- an item that ends before the units do is read so whatever comes behind them
abbrev IsDecided : Reader ℕ → Type 0
IsDecided read = (unit : ℕ) (units more : List ℕ) → (read (unit ∷ units)).0 < suc (length units) → read (unit ∷ (units ++ more)) ≡ read (unit ∷ units)

fitting-take : (row : Ranges) (most : ℕ) (bytes : List ℕ) → fitting row (take most bytes) ≡ min most (fitting row bytes)
unfolding fitting
fitting-take [] most bytes = omega arith
fitting-take (range ∷ row) zero bytes = omega arith
fitting-take (range ∷ row) (suc most) [] = omega arith
fitting-take (range ∷ row) (suc most) (byte ∷ bytes) =
    either (nat_le range.0 byte && nat_le byte range.1) (fitting row (take most bytes)) (fitting row bytes) (fitting-take row most bytes)
  where
    either : (b : Bool) (cut whole : ℕ) → cut ≡ min most whole
        → (if b then suc cut else 0) ≡ min (suc most) (if b then suc whole else 0)
    either true cut whole same = omega arith
    either false cut whole same = omega arith

-- what a table's first row reads that fits
abbrev found : List ℕ → List Ranges → Reading
found bytes table = option_map_or (λ row. read_row row bytes) (find (λ row. nat_lt 0 (fitting row bytes)) table) (1, 0xFFFD)

-- as many bytes as there are are read, where more of them would be
taken-take : (table : List Ranges) (most : ℕ) (bytes : List ℕ) → 0 < most → (found (take most bytes) table).0 ≡ min most (found bytes table).0
unfolding read_row
taken-take [] most bytes some = omega arith
taken-take (row ∷ table) most bytes some = on (nat_lt 0 (fitting row bytes)) refl (taken-take table most bytes some)
  where
    on : (b : Bool) → nat_lt 0 (fitting row bytes) ≡ b → (found (take most bytes) table).0 ≡ min most (found bytes table).0
        → (found (take most bytes) (row ∷ table)).0 ≡ min most (found bytes (row ∷ table)).0
    on true test more =
        let cut : nat_lt 0 (fitting row (take most bytes)) ≡ true =
        lt-ltb _ _ (omega (arith, fitting-take row most bytes, ltb-true _ _ test)) in
        rw (cut, test) (fitting-take row most bytes)
    on false test more =
        let cut : nat_lt 0 (fitting row (take most bytes)) ≡ false =
        le-ltb _ _ (omega (arith, fitting-take row most bytes, ltb-false _ _ test)) in
        rw (cut, test) more

read_utf8-decided : IsDecided read_utf8
unfolding read_utf8
read_utf8-decided unit units more short =
    let most = suc (length units) in
    let front : take most (unit ∷ (units ++ more)) ≡ unit ∷ units = take_at (unit ∷ units) more most refl in
    let taken : (read_utf8 (take most (unit ∷ (units ++ more)))).0 ≡ min most (read_utf8 (unit ∷ (units ++ more))).0 =
    taken-take rows most (unit ∷ (units ++ more)) (omega arith) in
    let same : (read_utf8 (take most (unit ∷ (units ++ more)))).0 ≡ (read_utf8 (unit ∷ units)).0 = ap (λ (bytes : List ℕ). (read_utf8 bytes).0) front in
    sym (read_utf8-stable.stable most unit (units ++ more) (omega (arith, taken, same, short))) ∙ ap read_utf8 front

-- ---- boundaries up to a place

-- boundaries stay in a list of so many
abbrev AreUpTo : ℕ → List Boundary → Type 0
AreUpTo count [] = Unit {0}
AreUpTo count (found ∷ boundaries) = (found.offset ≤ count) × AreUpTo count boundaries

up-to-all : (place : ℕ) (boundaries : List Boundary) → AreUpTo place boundaries → up_to place boundaries ≡ boundaries
up-to-all place [] inside = refl
up-to-all place (found ∷ boundaries) inside = rw (le-leb found.offset place inside.0, up-to-all place boundaries inside.1) refl

up-to-none : (place from end : ℕ) (boundaries : List Boundary) → RisesTo from boundaries end → up_to place (shift_all place boundaries) ≡ []
up-to-none place from end [] rises = refl
up-to-none place from end (found ∷ boundaries) rises =
    let above : nat_le (place + found.offset) place ≡ false = lt-leb (place + found.offset) place (omega (arith, rises.0)) in
    rw above (up-to-none place found.offset end boundaries rises.1)

up-to-start : (place end : ℕ) (boundaries : List Boundary) → IsCover 0 end boundaries → up_to place (shift_all place (drop 1 boundaries)) ≡ []
up-to-start place end [] cover = absurd cover
up-to-start place end (found ∷ boundaries) cover = up-to-none place 0 end boundaries cover.1

rising-least : (items : List Item) (end : ℕ) → IsRising items end → place_of items end ≤ end
rising-least [] end rising = omega arith
rising-least (item ∷ items) end rising = omega (arith, rising.0, rising-least items end rising.1)

in-up-to : (text : Text) → IsRising text.items text.end → (counted : List Boundary) → AreUpTo text.end (map (boundary_in text) counted)
in-up-to text rising [] = tt
in-up-to text rising (found ∷ counted) =
    (rising-least (drop found.offset text.items) text.end (IsRising-drop text.items text.end found.offset rising), in-up-to text rising counted)

-- of boundaries that cover a text, counted, all but the last stand before its last item ends
before-end : (text : Text) (count : ℕ) → length text.items ≡ suc count → (found : Boundary) (counted : List Boundary)
    → RisesTo (start_of (rest_after found.offset text)) (map (boundary_in text) counted) text.end → AreUpTo count (without_last (found ∷ counted))
before-end text count many found [] rises = tt
before-end text count many found (next ∷ counted) rises =
    rw (last-later found next counted) (on (nat_lt count found.offset) refl, before-end text count many next counted rises.1)
  where
    on : (past : Bool) → nat_lt count found.offset ≡ past → found.offset ≤ count
    on true test =
        let end : place_of (drop found.offset text.items) text.end ≡ text.end =
        ap (λ (items : List Item). place_of items text.end) (drop_all found.offset text.items (omega (arith, many, ltb-true _ _ test))) in
        absurd (omega (arith, end, rises.0, rises-le (map (boundary_in text) counted) (start_of (rest_after next.offset text)) text.end rises.1))
    on false test = ltb-false _ _ test

before-last : (text : Text) (count : ℕ) → length text.items ≡ suc count → (counted : List Boundary) → IsCover 0 text.end (map (boundary_in text) counted)
    → AreUpTo count (without_last counted)
before-last text count many [] cover = absurd cover
before-last text count many (found ∷ counted) cover =
    before-end text count many found counted (subst (λ (from : ℕ). RisesTo from (map (boundary_in text) counted) text.end) (sym cover.0) cover.1)

-- the places after some first items are the same where others follow
front-in : (one other : List Item) (end middle : ℕ) → place_of other end ≡ middle → (counted : List Boundary) → AreUpTo (length one) counted
    → map (boundary_in (record { items = one ++ other; end = end })) counted ≡ map (boundary_in (record { items = one; end = middle })) counted
front-in one other end middle is [] inside = refl
front-in one other end middle is (found ∷ counted) inside =
    ap₂ (λ (n : ℕ) (rest : List Boundary). boundary n found.status ∷ rest) (place-front one other end middle found.offset is inside.0)
    (front-in one other end middle is counted inside.1)

-- ---- the items before one of them

no-item : (item : Item) (items : List Item) → [] ≡ item ∷ items → ⊥
no-item item items is = let same : 0 ≡ suc (length items) = ap length is in omega (arith, same)

module _ (read : Reader ℕ) (stable : IsStable read) (decided : IsDecided read) where
  abbrev items : ℕ → List ℕ → List Item
  items = items_by read

  -- some first items, before another one: they stay so whatever comes behind the units, and are all that the units before it have
  record Cut (place : ℕ) (units : List ℕ) (front : List Item) (next : Item) (rest : List Item) : Type 0 where
    count : ℕ
    within : count ≤ length units
    at : next.0 ≡ place + count
    goes_on : (more : List ℕ) → items place (units ++ more) ≡ front ++ items (place + count) (drop count units ++ more)
    alone : items place (take count units) ≡ front
    left : items (place + count) (drop count units) ≡ next ∷ rest

  read-first : (place : ℕ) (units : List ℕ) → 0 < length units
      → items place units ≡ (place, (read units).1) ∷ items (place + (read units).0) (drop (read units).0 units)
  read-first place [] some = absurd (omega (arith, some))
  read-first place (unit ∷ units) some = items_by-cons read stable.reader place unit units

  some-units : (place : ℕ) (units : List ℕ) → 0 < length (items place units) → 0 < length units
  some-units place [] some = rw (items_by-nil read place) at some
  some-units place (unit ∷ units) some = omega arith

  cut : (front : List Item) (place : ℕ) (units : List ℕ) (next : Item) (rest : List Item) → items place units ≡ front ++ next ∷ rest
      → Cut place units front next rest
  cut [] place units next rest is =
      let same : place ≡ place + 0 = omega arith in
      record {
        count = 0;
        within = omega arith;
        at = sym (ap (λ (items : List Item). place_of items (place + length units)) is) ∙ place_of-items_by read stable.reader place units ∙ same;
        goes_on = λ more. ap (λ (at : ℕ). items at (units ++ more)) same;
        alone = items_by-nil read place;
        left = sym (ap (λ (at : ℕ). items at units) same) ∙ is;
      }
  cut (item ∷ front) place [] next rest is = absurd (no-item item (front ++ next ∷ rest) (sym (items_by-nil read place) ∙ is))
  cut (item ∷ front) place (unit ∷ units) next rest is =
      let found = read (unit ∷ units) in
      let left = drop found.0 (unit ∷ units) in
      let parts : (place, found.1) ∷ items (place + found.0) left ≡ item ∷ (front ++ next ∷ rest) = sym (items_by-cons read stable.reader place unit units) ∙ is in
      let first : (place, found.1) ≡ item = ap (λ (items : List Item). get_or items 0 item) parts in
      let later : items (place + found.0) left ≡ front ++ next ∷ rest = ap (drop 1) parts in
      let more_left = some-units (place + found.0) left (omega (arith, ap length later, length-append front (next ∷ rest))) in
      let size : length left ≡ suc (length units) - found.0 = length-drop found.0 (unit ∷ units) in
      let short : found.0 < suc (length units) = omega (arith, more_left, size) in
      let some : 0 < found.0 = stable.reader.some unit units in
      let c = cut front (place + found.0) left next rest later in
      let sum : place + found.0 + c.count ≡ place + (found.0 + c.count) = omega arith in
      let gone : drop c.count left ≡ drop (found.0 + c.count) (unit ∷ units) = drop-drop c.count found.0 (unit ∷ units) in
      let all : found.0 + c.count ≤ suc (length units) = omega (arith, short, size, c.within) in
      let part = take (found.0 + c.count) (unit ∷ units) in
      let long : length part ≡ found.0 + c.count = length-take-le (found.0 + c.count) (unit ∷ units) all in
      let same : read part ≡ found = stable.stable (found.0 + c.count) unit units (omega arith) in
      record {
        count = found.0 + c.count;
        within = all;
        at = c.at ∙ sum;
        goes_on = λ more.
            items_by-cons read stable.reader place unit (units ++ more)
            ∙ ap (λ (found : Reading). (place, found.1) ∷ items (place + found.0) (drop found.0 (unit ∷ (units ++ more)))) (decided unit units more short)
            ∙ ap (λ (left : List ℕ). (place, found.1) ∷ items (place + found.0) left) (drop-append-le found.0 (unit ∷ units) more (omega (arith, short)))
            ∙ ap₂ (λ (item : Item) (later : List Item). item ∷ later) first (c.goes_on more)
            ∙ ap₂ (λ (at : ℕ) (left : List ℕ). item ∷ (front ++ items at (left ++ more))) sum gone;
        alone =
            read-first place part (omega (arith, long, some))
            ∙ ap (λ (found : Reading). (place, found.1) ∷ items (place + found.0) (drop found.0 part)) same
            ∙ ap (λ (left : List ℕ). (place, found.1) ∷ items (place + found.0) left) (drop-take found.0 c.count (unit ∷ units))
            ∙ ap₂ (λ (item : Item) (later : List Item). item ∷ later) first c.alone;
        left = sym (ap₂ (λ (at : ℕ) (left : List ℕ). items at left) sum gone) ∙ c.left;
      }

  -- boundaries of code points stand so much later there
  there-in : (from : ℕ) (units : List ℕ) (counted : List Boundary)
      → map (boundary_in (text_by read from units)) counted ≡ shift_all from (map (boundary_in (text_by read 0 units)) counted)
  there-in from units [] = refl
  there-in from units (b ∷ counted) =
      let end : 0 + length units ≡ length units = omega arith in
      let place : start_of (rest_after b.offset (text_by read from units)) ≡ from + start_of (rest_after b.offset (text_by read 0 units)) =
      ap (λ (items : List Item). place_of (drop b.offset items) (from + length units)) (items-later read stable.reader from units)
      ∙ ap (λ (items : List Item). place_of items (from + length units)) (drop-map (λ (item : Item). (from + item.0, item.1)) b.offset (items 0 units))
      ∙ later-place from (length units) (drop b.offset (items 0 units))
      ∙ ap (λ (end : ℕ). from + place_of (drop b.offset (items 0 units)) end) (sym end) in
      ap₂ (λ (n : ℕ) (rest : List Boundary). boundary n b.status ∷ rest) place (there-in from units counted)

  -- ---- where a text may be split

  module _ (find : List ℕ → List Boundary) (bytes : List ℕ) (earlier : List Item) (before one : Item) (place other end next : ℕ) (later : List Item)
      (is : items 0 bytes ≡ earlier ++ before ∷ one ∷ (place, other) ∷ (end, next) ∷ later) where
    abbrev front : List Item
    front = earlier ++ before ∷ one ∷ []

    to-front : items 0 bytes ≡ front ++ (place, other) ∷ (end, next) ∷ later
    to-front = is ∙ sym (append_assoc earlier (before ∷ one ∷ []) ((place, other) ∷ (end, next) ∷ later))

    front-cut : Cut 0 bytes front (place, other) ((end, next) ∷ later)
    front-cut = cut front 0 bytes (place, other) ((end, next) ∷ later) to-front

    all-cut : Cut 0 bytes (front ++ (place, other) ∷ []) (end, next) later
    all-cut = cut (front ++ (place, other) ∷ []) 0 bytes (end, next) later (to-front ∙ sym (append_assoc front ((place, other) ∷ []) ((end, next) ∷ later)))

    at-place : front-cut.count ≡ place
    at-place = omega (arith, front-cut.at)

    at-end : all-cut.count ≡ end
    at-end = omega (arith, all-cut.at)

    pub place-within : place ≤ length bytes
    place-within = omega (arith, at-place, front-cut.within)

    pub end-within : end ≤ length bytes
    end-within = omega (arith, at-end, all-cut.within)

    start-place : 0 + front-cut.count ≡ place
    start-place = omega (arith, at-place)

    other-cut : Cut place (drop place bytes) ((place, other) ∷ []) (end, next) later
    other-cut =
        cut ((place, other) ∷ []) place (drop place bytes) (end, next) later
        (sym (ap₂ (λ (at n : ℕ). items at (drop n bytes)) start-place at-place) ∙ front-cut.left)

    -- the text with more behind it, and what begins at the place: there, and alone

    abbrev whole : List ℕ → Text
    whole more = text_by read 0 (bytes ++ more)

    abbrev there : List ℕ → Text
    there more = text_by read place (drop place bytes ++ more)

    abbrev rest : List ℕ → Text
    rest more = text_by read 0 (drop place bytes ++ more)

    abbrev behind : List ℕ → List Item
    behind more = items (place + other-cut.count) (drop other-cut.count (drop place bytes) ++ more)

    whole-is : (more : List ℕ) → whole more ≡ record { items = front ++ (there more).items; end = (there more).end }
    whole-is more =
        let size : 0 + length (bytes ++ more) ≡ place + length (drop place bytes ++ more) =
        omega (arith, place-within, length-append bytes more, length-append (drop place bytes) more, length-drop place bytes) in
        ap₂ (λ (items : List Item) (end : ℕ). record { items = items; end = end })
        (front-cut.goes_on more ∙ ap₂ (λ (at n : ℕ). front ++ items at (drop n bytes ++ more)) start-place at-place) size

    rest-is : (more : List ℕ) → rest_after (length front) (whole more) ≡ there more
    rest-is more =
        ap (rest_after (length front)) (whole-is more)
        ∙ ap (λ (items : List Item). record { items = items; end = (there more).end }) (drop_at front (there more).items (length front) refl)

    whole-codes : (more : List ℕ) → code_points (whole more).items ≡ code_points earlier ++ before.1 ∷ one.1 ∷ other ∷ code_points (behind more)
    whole-codes more =
        ap (λ (text : Text). code_points text.items) (whole-is more)
        ∙ ap (λ (items : List Item). code_points (front ++ items)) (other-cut.goes_on more)
        ∙ ap code_points (append_assoc earlier (before ∷ one ∷ []) ((place, other) ∷ behind more))
        ∙ map-append (λ (item : Item). item.1) earlier (before ∷ one ∷ (place, other) ∷ behind more)

    rest-codes : (more : List ℕ) → code_points (rest more).items ≡ other ∷ code_points (behind more)
    rest-codes more =
        sym (later-codes place (rest more).items)
        ∙ sym (ap code_points (items-later read stable.reader place (drop place bytes ++ more)))
        ∙ ap code_points (other-cut.goes_on more)

    -- the boundaries before the place, counted, and in the text
    abbrev counted : List Boundary
    counted = without_last (find (code_points earlier ++ before.1 ∷ one.1 ∷ other ∷ []))

    abbrev firsts : List Boundary
    firsts = map (boundary_in (record { items = front; end = place })) counted

    module _ (parts : SplitsBetween find before.1 one.1 other) (inside : AreUpTo (length front) counted) where
      -- what stands behind the place, and all boundaries
      back-part : (more : List ℕ) → map (boundary_in (whole more)) (shift_all (length (code_points earlier) + 2) (drop 1 (find (other ∷ code_points (behind more)))))
          ≡ shift_all place (drop 1 (boundaries_in find (rest more)))
      back-part more =
          let many : length (code_points earlier) + 2 ≡ length front =
          omega (arith, length-map earlier (λ (item : Item). item.1), length-append earlier (before ∷ one ∷ [])) in
          let codes = code_points (rest more).items in
          ap₂ (λ (n : ℕ) (codes : List ℕ). map (boundary_in (whole more)) (shift_all n (drop 1 (find codes)))) many (sym (rest-codes more))
          ∙ in-shift (whole more) (length front) (drop 1 (find codes))
          ∙ ap (λ (text : Text). map (boundary_in text) (drop 1 (find codes))) (rest-is more)
          ∙ there-in place (drop place bytes ++ more) (drop 1 (find codes))
          ∙ ap (shift_all place) (sym (drop-map (boundary_in (rest more)) 1 (find codes)))

      splits-any : (more : List ℕ) → boundaries_in find (whole more) ≡ firsts ++ shift_all place (drop 1 (boundaries_in find (rest more)))
      splits-any more =
          let front_part : map (boundary_in (whole more)) counted ≡ firsts =
          ap (λ (text : Text). map (boundary_in text) counted) (whole-is more)
          ∙ front-in front (there more).items (there more).end place (place_of-items_by read stable.reader place (drop place bytes ++ more)) counted inside in
          ap (λ (codes : List ℕ). map (boundary_in (whole more)) (find codes)) (whole-codes more)
          ∙ ap (map (boundary_in (whole more))) (parts (code_points earlier) (code_points (behind more)))
          ∙ in-append (whole more) counted (shift_all (length (code_points earlier) + 2) (drop 1 (find (other ∷ code_points (behind more)))))
          ∙ ap₂ (λ (some others : List Boundary). some ++ others) front_part (back-part more)

      -- those up to the place, which the bytes have alone
      front-rises : IsRising front place
      front-rises =
          let size : 0 + length (take front-cut.count bytes) ≡ place = omega (arith, at-place, length-take-le front-cut.count bytes front-cut.within) in
          subst₂ (λ (items : List Item) (end : ℕ). IsRising items end) front-cut.alone size (items_by-rises read stable.reader 0 (take front-cut.count bytes))

      up-to-is : IsCover 0 (length (drop place bytes)) (boundaries_in find (text_by read 0 (drop place bytes)))
          → up_to place (boundaries_in find (text_by read 0 bytes)) ≡ firsts
      up-to-is cover =
          let bare : boundaries_in find (text_by read 0 bytes) ≡ firsts ++ shift_all place (drop 1 (boundaries_in find (text_by read 0 (drop place bytes)))) =
          sym (ap (λ (bytes : List ℕ). boundaries_in find (text_by read 0 bytes)) (append-nil bytes))
          ∙ splits-any []
          ∙ ap (λ (left : List ℕ). firsts ++ shift_all place (drop 1 (boundaries_in find (text_by read 0 left)))) (append-nil (drop place bytes)) in
          ap (up_to place) bare
          ∙ filter-append (λ (found : Boundary). nat_le found.offset place) firsts (shift_all place (drop 1 (boundaries_in find (text_by read 0 (drop place bytes)))))
          ∙ ap₂ (λ (some others : List Boundary). some ++ others)
          (up-to-all place firsts (in-up-to (record { items = front; end = place }) front-rises counted))
          (up-to-start place (length (drop place bytes)) (boundaries_in find (text_by read 0 (drop place bytes))) cover)
          ∙ append-nil firsts

    -- all boundaries that are counted before the place are in it
    counted-inside : IsCover 0 (length (take end bytes)) (boundaries_in find (text_by read 0 (take end bytes))) → AreUpTo (length front) counted
    counted-inside cover =
        let text : Text = text_by read 0 (take end bytes) in
        let are : text.items ≡ front ++ (place, other) ∷ [] = ap (λ (n : ℕ). items 0 (take n bytes)) (sym at-end) ∙ all-cut.alone in
        let many : length text.items ≡ suc (length front) = omega (arith, ap length are, length-append front ((place, other) ∷ [])) in
        let codes : code_points text.items ≡ code_points earlier ++ before.1 ∷ one.1 ∷ other ∷ [] =
        ap code_points are
        ∙ ap code_points (append_assoc earlier (before ∷ one ∷ []) ((place, other) ∷ []))
        ∙ map-append (λ (item : Item). item.1) earlier (before ∷ one ∷ (place, other) ∷ []) in
        let size : length (take end bytes) ≡ text.end = omega arith in
        before-last text (length front) many (find (code_points earlier ++ before.1 ∷ one.1 ∷ other ∷ []))
        (subst₂ (λ (end : ℕ) (codes : List ℕ). IsCover 0 end (map (boundary_in text) (find codes))) size codes cover)

    pub splits : SplitsBetween find before.1 one.1 other → IsCover 0 (length (take end bytes)) (boundaries_in find (text_by read 0 (take end bytes)))
        → IsCover 0 (length (drop place bytes)) (boundaries_in find (text_by read 0 (drop place bytes))) → (more : List ℕ)
        → boundaries_in find (whole more) ≡ up_to place (boundaries_in find (text_by read 0 bytes)) ++ shift_all place (drop 1 (boundaries_in find (rest more)))
    splits parts first cover more =
        let inside = counted-inside first in
        splits-any parts inside more
        ∙ sym (ap (λ (some : List Boundary). some ++ shift_all place (drop 1 (boundaries_in find (rest more)))) (up-to-is parts inside cover))

-- ---- how a reader of items finds such a place

-- what is left of a text, with one item more before it
abbrev pub with_next : ℕ → ℕ → Text → Text
with_next at other left = record { items = (at, other) ∷ left.items; end = left.end }

-- the item that was read third
pub reads-three : (text : Text) (before one at other : ℕ) (old left : Text) → ReadsTwo text before one old → old.items ≡ (at, other) ∷ left.items → left.end ≡ old.end
    → ReadsTwo text before one (with_next at other left)
reads-three text before one at other old left read next end = record {
  earlier = read.earlier;
  place = read.place;
  other_place = read.other_place;
  items = read.items ∙ ap (λ (rest : List Item). read.earlier ++ (read.place, before) ∷ (read.other_place, one) ∷ rest) next;
  end = end ∙ read.end;
}

-- one item further
pub three-next : (text : Text) (before one at other end next : ℕ) (old left : Text) → ReadsTwo text before one (with_next at other old)
    → old.items ≡ (end, next) ∷ left.items → left.end ≡ old.end → ReadsTwo text one other (with_next end next left)
three-next text before one at other end next old left read is same =
    reads-three text one other end next old left (reads-next text before one at other (with_next at other old) old read refl refl) is same

-- a text begins at 0
pub utf8-start : (bytes : List ℕ) → start_of (utf8 bytes) ≡ 0
unfolding utf8_items
utf8-start bytes = place_of-items_by read_utf8 read_utf8-stable.reader 0 bytes

-- where a cursor over bytes that was made just now goes on to
pub seek-there : (bytes : List ℕ) (new : Rest ℕ) (from : ℕ) → new ≡ record { place = 0; units = bytes } → (from ≡ 0) ⊎ IsPlace (utf8 bytes) from
    → (k : ℕ) × (from ≡ start_of (rest_after k (utf8_from new.place new.units)))
seek-there bytes new from is (inl start) =
    (0, start ∙ sym (utf8-start bytes) ∙ sym (ap (λ (new : Rest ℕ). start_of (rest_after 0 (utf8_from new.place new.units))) is))
seek-there bytes new from is (inr place) =
    (place.before, place.at ∙ sym (ap (λ (new : Rest ℕ). start_of (rest_after place.before (utf8_from new.place new.units))) is))

-- a text may be split at the place of an item, which ends where another begins, as the two before it tell
pub record IsSplit (find : List ℕ → List Boundary) (text : Text) (place end : ℕ) : Type 0 where
  pub before : ℕ
  pub one : ℕ
  pub other : ℕ
  pub next : ℕ
  pub left : Text
  pub read : ReadsTwo text before one (with_next place other (with_next end next left))
  pub breaks : AlwaysBreaks find before one other
  pub parts : SplitsBetween find before one other

pub split-found : (find : List ℕ → List Boundary) (text : Text) (before one at other end next : ℕ) (old left : Text) → ReadsTwo text before one (with_next at other old)
    → old.items ≡ (end, next) ∷ left.items → left.end ≡ old.end → AlwaysBreaks find before one other → SplitsBetween find before one other
    → IsSplit find text at end
split-found find text before one at other end next old left read is same breaks parts = record {
  before = before;
  one = one;
  other = other;
  next = next;
  left = left;
  read = record {
    earlier = read.earlier;
    place = read.place;
    other_place = read.other_place;
    items = read.items ∙ ap (λ (rest : List Item). read.earlier ++ (read.place, before) ∷ (read.other_place, one) ∷ (at, other) ∷ rest) is;
    end = same ∙ read.end;
  };
  breaks = breaks;
  parts = parts;
}

-- what was found last
pub last-found : (find : List ℕ → List Boundary) (text : Text) (found : Option (ℕ × ℕ)) (place end : ℕ) → found ≡ Some (place, end)
    → IfSome found (λ (found : ℕ × ℕ). IsSplit find text found.0 found.1) → IsSplit find text place end
last-found find text found place end is split = subst (λ (found : Option (ℕ × ℕ)). IfSome found (λ (found : ℕ × ℕ). IsSplit find text found.0 found.1)) is split

-- there the text may be split
module _ (find : List ℕ → List Boundary) (bytes : List ℕ) (place end : ℕ) (s : IsSplit find (utf8 bytes) place end) where
  pub place-inside : place ≤ length bytes
  unfolding utf8_items
  place-inside =
      place-within read_utf8 read_utf8-stable read_utf8-decided find bytes s.read.earlier (s.read.place, s.before) (s.read.other_place, s.one)
      place s.other end s.next s.left.items s.read.items

  pub end-inside : end ≤ length bytes
  unfolding utf8_items
  end-inside =
      end-within read_utf8 read_utf8-stable read_utf8-decided find bytes s.read.earlier (s.read.place, s.before) (s.read.other_place, s.one)
      place s.other end s.next s.left.items s.read.items

  pub splits-at : (first part : List ℕ) → first ≡ take end bytes → part ≡ drop place bytes → IsCover 0 (length first) (boundaries_of_units utf8 find first)
      → IsCover 0 (length part) (boundaries_of_units utf8 find part) → SplitsAt (boundaries_of_units utf8 find) bytes place
  unfolding utf8_items
  splits-at first part is_first is_part covers cover = record {
    boundary =
        certain-here (utf8 bytes) (with_next place s.other (with_next end s.next s.left)) ((end, s.next) ∷ s.left.items) s.before s.one place s.other s.read refl find s.breaks;
    parts =
        splits read_utf8 read_utf8-stable read_utf8-decided find bytes s.read.earlier (s.read.place, s.before) (s.read.other_place, s.one)
        place s.other end s.next s.left.items s.read.items s.parts
        (subst (λ (text : List ℕ). IsCover 0 (length text) (boundaries_of_units utf8 find text)) is_first covers)
        (subst (λ (text : List ℕ). IsCover 0 (length text) (boundaries_of_units utf8 find text)) is_part cover);
  }
