-- The items of units that may be split: a code point's units are read alone, whatever stands before them and after them.
use Rattle.std.proofs.Common.{◌≡◌, ℕ, zero, suc, ◌+◌, ◌<◌, ◌≤◌, List, [], ◌∷◌, ◌++◌, map, take, drop, length, refl, sym, ap, ap₂, ◌∙◌, arith, append_assoc, append-nil, length-append, take_at, drop_at}
use Rattle.std.proofs.lemmas.List.{length-drop, length-map, drop-map, drop-append-le, map-append}
use Rattle.seg_text.specs.declared.boundary.Boundary.{Boundary}
use Rattle.seg_text.specs.Items.{Item, Reader, Text, place_of, start_of, rest_after, code_points, items_by, text_by}
use Rattle.seg_text.specs.Boundaries.{IsCover, RisesTo, boundary, boundary_in, boundaries_in, shift_all}
use Rattle.seg_text.specs.Lemmas.Readers.{IsStable, items_by-nil, items_by-cons, place_of-items_by}
use Rattle.seg_text.proofs.Covers.{rises-le}
use Rattle.seg_text.proofs.LaterItems.{items-later, later-codes, later-place, later_items}
use Rattle.seg_text.proofs.Places.{in-append}
use Rattle.seg_clusters.specs.Rules.{PartsBehind}

-- these units are read as the code point, and no item reaches into them from before
pub record IsApart (read : Reader ℕ) (mark : List ℕ) (code_point : ℕ) : Type 0 where
  pub some : 0 < length mark
  pub whole : (units : List ℕ) → read (mark ++ units) ≡ (length mark, code_point)
  pub apart : (unit : ℕ) (before units : List ℕ) → (read (unit ∷ (before ++ (mark ++ units)))).0 ≤ suc (length before)

-- boundaries stay in a list of so many
abbrev AreUpTo : ℕ → List Boundary → Type 0
AreUpTo count [] = Unit {0}
AreUpTo count (found ∷ boundaries) = (found.offset ≤ count) × AreUpTo count boundaries

rise-up-to : (boundaries : List Boundary) (from end : ℕ) → RisesTo from boundaries end → AreUpTo end boundaries
rise-up-to [] from end rises = tt
rise-up-to (found ∷ boundaries) from end rises = (rises-le boundaries found.offset end rises.1, rise-up-to boundaries found.offset end rises.1)

cover-up-to : (boundaries : List Boundary) (end : ℕ) → IsCover 0 end boundaries → AreUpTo end boundaries
cover-up-to [] end cover = absurd cover
cover-up-to (found ∷ boundaries) end (first, rises) = (omega (arith, first, rises-le boundaries 0 end rises), rise-up-to boundaries 0 end rises)

-- the places of the first items are the same where more follow
pub place-front : (one other : List Item) (end middle n : ℕ) → place_of other end ≡ middle → n ≤ length one → place_of (drop n (one ++ other)) end ≡ place_of (drop n one) middle
place-front [] other end middle zero is few = is
place-front [] other end middle (suc n) is few = absurd (omega arith)
place-front (item ∷ one) other end middle zero is few = refl
place-front (item ∷ one) other end middle (suc n) is few = place-front one other end middle n is (omega arith)

pub drop-past : (one other : List Item) (n : ℕ) → drop (length one + n) (one ++ other) ≡ drop n other
drop-past [] other n = let same : 0 + n ≡ n = omega arith in ap (λ k. drop k other) same
drop-past (item ∷ one) other n =
    let same : suc (length one) + n ≡ suc (length one + n) = omega arith in
    ap (λ k. drop k (item ∷ (one ++ other))) same ∙ drop-past one other n

module _ (read : Reader ℕ) (stable : IsStable read) where
  abbrev items : ℕ → List ℕ → List Item
  items = items_by read

  module _ (mark : List ℕ) (c : ℕ) (is : IsApart read mark c) where
    -- units that end with the mark have the code point as their last item, whatever follows
    record Split (place : ℕ) (before : List ℕ) : Type 0 where
      front : List Item
      at : ℕ
      parts : (units : List ℕ) → items place (before ++ (mark ++ units)) ≡ front ++ (at, c) ∷ items (place + length before + length mark) units

    read-some : (place : ℕ) (bytes : List ℕ) → 0 < length bytes
        → items place bytes ≡ (place, (read bytes).1) ∷ items (place + (read bytes).0) (drop (read bytes).0 bytes)
    read-some place [] some = absurd (omega arith)
    read-some place (unit ∷ units) some = items_by-cons read stable.reader place unit units

    same-read : (unit : ℕ) (before units : List ℕ) → read (unit ∷ (before ++ (mark ++ units))) ≡ read (unit ∷ before)
    same-read unit before units =
        let front : take (suc (length before)) (unit ∷ (before ++ (mark ++ units))) ≡ unit ∷ before = take_at (unit ∷ before) (mark ++ units) _ refl in
        sym (stable.stable (suc (length before)) unit (before ++ (mark ++ units)) (is.apart unit before units)) ∙ ap read front

    split-within : (most place : ℕ) (before : List ℕ) → length before ≤ most → Split place before
    split-within most place [] bound = record {
      front = [];
      at = place;
      parts = λ units.
          let some : 0 < length (mark ++ units) = omega (arith, is.some, length-append mark units) in
          let sum : place + length mark ≡ place + 0 + length mark = omega arith in
          read-some place (mark ++ units) some
          ∙ ap (λ (found : ℕ × ℕ). (place, found.1) ∷ items (place + found.0) (drop found.0 (mark ++ units))) (is.whole units)
          ∙ ap₂ (λ at left. (place, c) ∷ items at left) sum (drop_at mark units _ refl);
    }
    split-within zero place (unit ∷ before) bound = absurd (omega arith)
    split-within (suc most) place (unit ∷ before) bound =
        let found = read (unit ∷ before) in
        let left = drop found.0 (unit ∷ before) in
        let inside = stable.reader.within unit before in
        let size = length-drop found.0 (unit ∷ before) in
        let fewer : length left ≤ most = omega (arith, size, stable.reader.some unit before) in
        let later = split-within most (place + found.0) left fewer in
        let sum : place + found.0 + length left + length mark ≡ place + suc (length before) + length mark = omega (arith, size) in
        record {
          front = (place, found.1) ∷ later.front;
          at = later.at;
          parts = λ units.
              items_by-cons read stable.reader place unit (before ++ (mark ++ units))
              ∙ ap (λ (found : ℕ × ℕ). (place, found.1) ∷ items (place + found.0) (drop found.0 (unit ∷ (before ++ (mark ++ units))))) (same-read unit before units)
              ∙ ap (λ left. (place, found.1) ∷ items (place + found.0) left) (drop-append-le found.0 (unit ∷ before) (mark ++ units) inside)
              ∙ ap (λ items. (place, found.1) ∷ items) (later.parts units)
              ∙ ap (λ at. (place, found.1) ∷ (later.front ++ (later.at, c) ∷ items at units)) sum;
        }

    module _ (before second : List ℕ) where
      abbrev first : List ℕ
      first = before ++ mark

      abbrev whole : Text
      whole = text_by read 0 (first ++ second)

      abbrev one : Text
      one = text_by read 0 first

      abbrev two : Text
      two = text_by read 0 second

      split : Split 0 before
      split = split-within (length before) 0 before (omega arith)

      end-of-first : 0 + length before + length mark ≡ length first
      end-of-first = omega (arith, length-append before mark)

      one-items : one.items ≡ split.front ++ (split.at, c) ∷ []
      one-items =
          let all : before ++ mark ≡ before ++ (mark ++ []) = ap (λ mark. before ++ mark) (sym (append-nil mark)) in
          ap (items 0) all ∙ split.parts []
          ∙ ap (λ rest. split.front ++ (split.at, c) ∷ rest) (items_by-nil read (0 + length before + length mark))

      whole-items : whole.items ≡ one.items ++ later_items (length first) two.items
      whole-items =
          ap (items 0) (append_assoc before mark second) ∙ split.parts second
          ∙ ap (λ at. split.front ++ (split.at, c) ∷ items at second) end-of-first
          ∙ ap (λ rest. split.front ++ (split.at, c) ∷ rest) (items-later read stable.reader (length first) second)
          ∙ sym (append_assoc split.front ((split.at, c) ∷ []) (later_items (length first) two.items))
          ∙ sym (ap (λ items. items ++ later_items (length first) two.items) one-items)

      whole-end : whole.end ≡ length first + two.end
      whole-end = omega (arith, length-append first second)

      start-of-rest : place_of (later_items (length first) two.items) (length first + two.end) ≡ one.end
      start-of-rest =
          later-place (length first) two.end two.items
          ∙ ap (λ n. length first + n) (place_of-items_by read stable.reader 0 second) ∙ omega arith

      -- the code points of the first text end with this one
      one-codes : code_points one.items ≡ code_points split.front ++ c ∷ []
      one-codes = ap code_points one-items ∙ map-append (λ (item : Item). item.1) split.front ((split.at, c) ∷ [])

      whole-codes : code_points whole.items ≡ (code_points split.front ++ c ∷ []) ++ code_points two.items
      whole-codes =
          ap code_points whole-items ∙ map-append (λ (item : Item). item.1) one.items (later_items (length first) two.items)
          ∙ ap₂ (λ front back. front ++ back) one-codes (later-codes (length first) two.items)

      front-in : (found : List Boundary) → AreUpTo (length one.items) found → map (boundary_in whole) found ≡ map (boundary_in one) found
      front-in [] inside = refl
      front-in (b ∷ found) inside =
          let place : start_of (rest_after b.offset whole) ≡ start_of (rest_after b.offset one) =
          ap₂ (λ items end. place_of (drop b.offset items) end) whole-items whole-end
          ∙ place-front one.items (later_items (length first) two.items) (length first + two.end) one.end b.offset start-of-rest inside.0 in
          ap₂ (λ n (rest : List Boundary). boundary n b.status ∷ rest) place (front-in found inside.1)

      back-in : (found : List Boundary) → map (boundary_in whole) (shift_all (length one.items) found) ≡ shift_all (length first) (map (boundary_in two) found)
      back-in [] = refl
      back-in (b ∷ found) =
          let place : start_of (rest_after (length one.items + b.offset) whole) ≡ length first + start_of (rest_after b.offset two) =
          ap₂ (λ items end. place_of (drop (length one.items + b.offset) items) end) whole-items whole-end
          ∙ ap (λ items. place_of items (length first + two.end)) (drop-past one.items (later_items (length first) two.items) b.offset)
          ∙ ap (λ items. place_of items (length first + two.end)) (drop-map (λ (item : Item). (length first + item.0, item.1)) b.offset two.items)
          ∙ later-place (length first) two.end (drop b.offset two.items) in
          ap₂ (λ n (rest : List Boundary). boundary n b.status ∷ rest) place (back-in found)

    -- the items of a text that is split so, and how the code points of its first part end
    pub items-split : (before second : List ℕ) → items 0 ((before ++ mark) ++ second) ≡ items 0 (before ++ mark) ++ later_items (length (before ++ mark)) (items 0 second)
    items-split before second = whole-items before second

    pub codes-end : (before : List ℕ) → (front : List ℕ) × (code_points (items 0 (before ++ mark)) ≡ front ++ c ∷ [])
    codes-end before = (code_points (split before []).front, one-codes before [])

    -- where lists of code points may be split after the code point, texts may behind its units
    pub parts-texts : (find : List ℕ → List Boundary) → ((cs : List ℕ) → IsCover 0 (length cs) (find cs)) → PartsBehind find (c ∷ [])
        → PartsBehind (λ units. boundaries_in find (text_by read 0 units)) mark
    parts-texts find cover lists before second =
        let all = whole before second in
        let front = one before second in
        let back = two before second in
        let codes = code_points (split before second).front in
        let count : length (code_points front.items) ≡ length front.items = length-map front.items (λ (item : Item). item.1) in
        let same = one-codes before second in
        let inside = cover-up-to (find (code_points front.items)) (length front.items) (rw count at (cover (code_points front.items))) in
        ap (λ cs. map (boundary_in all) (find cs)) (whole-codes before second)
        ∙ ap (map (boundary_in all)) (lists codes (code_points back.items))
        ∙ ap (λ cs. map (boundary_in all) (find cs ++ shift_all (length cs) (drop 1 (find (code_points back.items))))) (sym same)
        ∙ ap (λ n. map (boundary_in all) (find (code_points front.items) ++ shift_all n (drop 1 (find (code_points back.items))))) count
        ∙ in-append all (find (code_points front.items)) (shift_all (length front.items) (drop 1 (find (code_points back.items))))
        ∙ ap₂ (λ (some others : List Boundary). some ++ others) (front-in before second (find (code_points front.items)) inside)
        (back-in before second (drop 1 (find (code_points back.items)))
        ∙ ap (shift_all (length (before ++ mark))) (sym (drop-map (boundary_in back) 1 (find (code_points back.items)))))
