-- The boundaries of a list that is cut stretch by stretch, and those of a text, rise strictly from its start to its end.
use Rattle.std.proofs.Common.{◌≡◌, ℕ, zero, suc, ◌+◌, ◌-◌, ◌<◌, ◌≤◌, List, [], ◌∷◌, ◌++◌, length, map, drop, refl, sym, ◌∙◌, ap, arith, zero-add}
use Rattle.std.proofs.lemmas.List.{length-drop, length-map, drop-drop, drop_all}
use Rattle.seg_text.specs.declared.boundary.Boundary.{Boundary}
use Rattle.seg_text.specs.Items.{Item, Reader, Text, place_of, start_of, code_points, items_by, IsRising}
use Rattle.seg_text.specs.Boundaries.{boundary_in, boundaries_in, shift_all, RisesTo, IsCover, Stretch, later_boundaries, list_boundaries, HasProgress, IsWithin}
use Rattle.seg_text.specs.Decoding.{read_latin1, latin1_items, latin1, read_utf8, utf8_items, utf8, read_utf16, utf16_items, utf16}
use Rattle.seg_text.specs.Lemmas.Readers.{IsReader, place_of-items_by}
use Rattle.seg_text.specs.Lemmas.Rising.{read_latin1-reader, read_utf8-reader, read_utf16-reader}
use Rattle.seg_text.proofs.Places.{IsRising-drop, place_of-drop-lt, shifted-none, shifted-twice, shifted-append}
use Rattle.seg_text.proofs.Stretches.{later-nil, later-next}

-- where boundaries rise to is told by them
rises-one : (boundaries : List Boundary) (from end other : ℕ) → RisesTo from boundaries end → RisesTo from boundaries other → end ≡ other
rises-one [] from end other rises too = sym rises ∙ too
rises-one (boundary ∷ boundaries) from end other rises too = rises-one boundaries boundary.offset end other rises.1 too.1

pub rises-le : (boundaries : List Boundary) (from end : ℕ) → RisesTo from boundaries end → from ≤ end
rises-le [] from end rises = omega (arith, rises)
rises-le (boundary ∷ boundaries) from end rises = omega (arith, rises.0, rises-le boundaries boundary.offset end rises.1)

-- others go on from the last
rises-append : (boundaries others : List Boundary) (before from end to : ℕ) → RisesTo from boundaries end → RisesTo (before + end) others to
    → RisesTo (before + from) (shift_all before boundaries ++ others) to
rises-append [] others before from end to rises more = rw rises more
rises-append (boundary ∷ boundaries) others before from end to rises more =
    (omega (arith, rises.0), rises-append boundaries others before boundary.offset end to rises.1 more)

module _ {X : Type 0} (first : List X → Stretch) (within : (x : X) (xs : List X) → IsWithin (length (x ∷ xs)) (first (x ∷ xs))) where
  going : HasProgress first
  going x xs = (within x xs).some

  -- after so many elements the boundaries of these rise to the end, from any offset that isn't after their start
  abbrev AllRise : List X → ℕ → Type 0
  AllRise xs before = (from : ℕ) → (xs ≡ [] → from ≡ before) → from ≤ before → RisesTo from (shift_all before (later_boundaries first xs)) (before + length xs)

  -- the boundaries of the first stretch, and those of what is left after it
  stretch-rises : (x : X) (xs : List X) (before : ℕ) → AllRise (drop (first (x ∷ xs)).extent (x ∷ xs)) (before + (first (x ∷ xs)).extent) → AllRise (x ∷ xs) before
  stretch-rises x xs before rest from none low =
      rw (later-next first going x xs, shifted-append before stretch.boundaries, shifted-twice before stretch.extent, ← whole) (on stretch.boundaries fits.rises fits.last)
    where
      stretch : Stretch
      stretch = first (x ∷ xs)

      fits : IsWithin (length (x ∷ xs)) stretch
      fits = within x xs

      whole : (before + stretch.extent) + length (drop stretch.extent (x ∷ xs)) ≡ before + length (x ∷ xs)
      whole = omega (arith, length-drop stretch.extent (x ∷ xs), fits.within)

      all : drop stretch.extent (x ∷ xs) ≡ [] → stretch.extent ≡ length (x ∷ xs)
      all empty = omega (arith, ap length empty, length-drop stretch.extent (x ∷ xs), fits.within)

      on : (boundaries : List Boundary) → (end : ℕ) × (end ≤ stretch.extent) × RisesTo 0 boundaries end
          → (stretch.extent ≡ length (x ∷ xs) → RisesTo 0 boundaries stretch.extent)
          → RisesTo from (shift_all before boundaries ++ shift_all (before + stretch.extent) (later_boundaries first (drop stretch.extent (x ∷ xs))))
          ((before + stretch.extent) + length (drop stretch.extent (x ∷ xs)))
      on [] rises last = rest from (λ empty. absurd (omega (arith, last (all empty), fits.some))) (omega arith)
      on (boundary ∷ boundaries) (end, inside, rises) last = (
        omega (arith, rises.0),
        rises-append boundaries _ before boundary.offset end _ rises.1
            (rest (before + end) (λ empty. ap (λ n. before + n) (rises-one boundaries boundary.offset end stretch.extent rises.1 (last (all empty)).1)) (omega arith)),
      )

  rises-within : (most : ℕ) (xs : List X) (before : ℕ) → length xs ≤ most → AllRise xs before
  rises-within most [] before bound = λ from none low. rw (later-nil first) (none refl ∙ omega arith)
  rises-within zero (x ∷ xs) before bound = absurd (omega arith)
  rises-within (suc most) (x ∷ xs) before bound =
      let n = (first (x ∷ xs)).extent in
      let fewer : length (drop n (x ∷ xs)) ≤ most = omega (arith, bound, length-drop n (x ∷ xs), going x xs) in
      stretch-rises x xs before (rises-within most (drop n (x ∷ xs)) (before + n) fewer)

  -- counted in elements
  pub covers-list : (xs : List X) → IsCover 0 (length xs) (list_boundaries first xs)
  covers-list xs =
      let rises = rises-within (length xs) xs 0 (omega arith) 0 (λ empty. refl) (omega arith) in
      (refl, rw (shifted-none (later_boundaries first xs), zero-add (length xs)) at rises)

-- as places

place-at-end : (items : List Item) (end : ℕ) → place_of (drop (length items) items) end ≡ end
place-at-end items end = rw (drop_all (length items) items (omega arith)) refl

pub place-between : (items : List Item) (end from to : ℕ) → IsRising items end → from < to → to ≤ length items
    → place_of (drop from items) end < place_of (drop to items) end
place-between items end from to rising before inside = on (drop from items) refl
  where
    on : (rest : List Item) → drop from items ≡ rest → place_of rest end < place_of (drop to items) end
    on [] is = absurd (omega (arith, length-drop from items, ap length is))
    on (item ∷ rest) is =
        let parts : from + (to - from) ≡ to = omega arith in
        let same : drop (to - from) (item ∷ rest) ≡ drop to items = ap (drop (to - from)) (sym is) ∙ drop-drop (to - from) from items ∙ ap (λ n. drop n items) parts in
        rw (← same) (place_of-drop-lt item rest end (to - from) (rw is at (IsRising-drop items end from rising)) (omega arith))

in-rises : (text : Text) (counted : List Boundary) (from : ℕ) → IsRising text.items text.end → RisesTo from counted (length text.items)
    → RisesTo (place_of (drop from text.items) text.end) (map (boundary_in text) counted) text.end
in-rises text [] from rising rises = rw rises (place-at-end text.items text.end)
in-rises text (boundary ∷ counted) from rising rises = (
  place-between text.items text.end from boundary.offset rising rises.0 (rises-le counted boundary.offset (length text.items) rises.1),
  in-rises text counted boundary.offset rising rises.1,
)

-- boundaries that cover the items, counted, cover their text
pub covers-in : (text : Text) (counted : List Boundary) → IsRising text.items text.end → IsCover 0 (length text.items) counted
    → IsCover (start_of text) text.end (map (boundary_in text) counted)
covers-in text [] rising cover = cover
covers-in text (boundary ∷ counted) rising (first, rises) =
    (ap (λ n. place_of (drop n text.items) text.end) first, in-rises text counted 0 rising rises)

pub covers : (first : List ℕ → Stretch) → ((x : ℕ) (xs : List ℕ) → IsWithin (length (x ∷ xs)) (first (x ∷ xs)))
    → (whole : Text) → IsRising whole.items whole.end → IsCover (start_of whole) whole.end (boundaries_in (list_boundaries first) whole)
covers first within whole rising =
    let counted = covers-list first within (code_points whole.items) in
    covers-in whole (list_boundaries first (code_points whole.items)) rising (rw (length-map whole.items (λ (item : Item). item.1)) at counted)

-- the texts of whole inputs begin at 0, and end after all of their units

cover-whole : (read : Reader ℕ) → IsReader read → (units : List ℕ) (boundaries : List Boundary)
    → IsCover (place_of (items_by read 0 units) (0 + length units)) (0 + length units) boundaries → IsCover 0 (length units) boundaries
cover-whole read reader units boundaries cover = rw (place_of-items_by read reader 0 units, zero-add (length units)) at cover

pub cover-latin1 : (bytes : List ℕ) (boundaries : List Boundary) → IsCover (start_of (latin1 bytes)) (latin1 bytes).end boundaries → IsCover 0 (length bytes) boundaries
unfolding latin1_items
cover-latin1 bytes boundaries cover = cover-whole read_latin1 read_latin1-reader bytes boundaries cover

pub cover-utf8 : (bytes : List ℕ) (boundaries : List Boundary) → IsCover (start_of (utf8 bytes)) (utf8 bytes).end boundaries → IsCover 0 (length bytes) boundaries
unfolding utf8_items
cover-utf8 bytes boundaries cover = cover-whole read_utf8 read_utf8-reader bytes boundaries cover

pub cover-utf16 : (units : List ℕ) (boundaries : List Boundary) → IsCover (start_of (utf16 units)) (utf16 units).end boundaries → IsCover 0 (length units) boundaries
unfolding utf16_items
cover-utf16 units boundaries cover = cover-whole read_utf16 read_utf16-reader units boundaries cover
