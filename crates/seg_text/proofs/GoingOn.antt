-- Where lists of code points may be cut anew from their boundaries, texts may too: behind one of them come those of the rest.
use Rattle.std.proofs.Common.{◌≡◌, ℕ, zero, suc, ◌+◌, List, [], ◌∷◌, ◌++◌, map, take, drop, length, slice_get, refl, sym, ap, ap₂, ◌∙◌, arith}
use Rattle.std.specs.Prelude.{Some, Contains}
use Rattle.std.proofs.lemmas.List.{drop-map, drop_more, take-append-drop}
use Rattle.std.proofs.lemmas.Option.{slice_get_read}
use Rattle.seg_text.specs.declared.boundary.Boundary.{Boundary}
use Rattle.seg_text.specs.Items.{Item, Reader, Text, place_of, start_of, rest_after, code_points, text_by}
use Rattle.seg_text.specs.Boundaries.{HasRestart, RestartsIn, boundary_in, boundaries_in, offsets}
use Rattle.seg_text.specs.Lemmas.Readers.{IsReader}
use Rattle.seg_text.specs.Decoding.{read_latin1, latin1, latin1_items, read_utf8, utf8, utf8_items, read_utf16, utf16, utf16_items}
use Rattle.seg_text.specs.Lemmas.Rising.{read_latin1-reader}
use Rattle.seg_text.specs.Lemmas.Utf8Stable.{read_utf8-stable}
use Rattle.seg_text.specs.Lemmas.Utf16Stable.{read_utf16-stable}
use Rattle.seg_text.proofs.Cursors.{seek-text}
use Rattle.seg_text.proofs.LaterItems.{items-later, later-codes, later-place}
use Rattle.seg_text.proofs.Places.{code_points-drop, in-shift}

-- what is found at an index was found before it was mapped
mapped : {X Y : Type 0} (f : X → Y) (xs : List X) (k : ℕ) (y : Y) → slice_get (map f xs) k ≡ Some y → (x : X) × (slice_get xs k ≡ Some x) × (f x ≡ y)
mapped f [] k y is = absurd cc
mapped f (x ∷ xs) zero y is = (x, refl, cc)
mapped f (x ∷ xs) (suc k) y is = mapped f xs k y is

module _ (read : Reader ℕ) (reader : IsReader read) where
  module _ (from : ℕ) (units : List ℕ) where
    abbrev there : Text
    there = text_by read from units

    abbrev alone : Text
    alone = text_by read 0 units

    codes-there : code_points there.items ≡ code_points alone.items
    codes-there = ap code_points (items-later read reader from units) ∙ later-codes from alone.items

    place-there : (n : ℕ) → start_of (rest_after n there) ≡ from + start_of (rest_after n alone)
    place-there n =
        let end : 0 + length units ≡ length units = omega arith in
        ap (λ items. place_of (drop n items) (from + length units)) (items-later read reader from units)
        ∙ ap (λ items. place_of items (from + length units)) (drop-map (λ (item : Item). (from + item.0, item.1)) n alone.items)
        ∙ later-place from (length units) (drop n alone.items)
        ∙ ap (λ end. from + place_of (drop n alone.items) end) (sym end)

    -- boundaries of code points stand so much later there
    places-there : (counted : List Boundary) → offsets (map (boundary_in there) counted) ≡ map (λ place. from + place) (offsets (map (boundary_in alone) counted))
    places-there [] = refl
    places-there (found ∷ counted) = ap₂ (λ place places. place ∷ places) (place-there found.offset) (places-there counted)

  -- the places of a text behind one of them are those of the rest
  pub goes-on : (find : List ℕ → List Boundary) (units : List ℕ) → RestartsIn find (code_points (text_by read 0 units).items)
      → (k from : ℕ) → slice_get (offsets (boundaries_in find (text_by read 0 units))) k ≡ Some from
      → drop (suc k) (offsets (boundaries_in find (text_by read 0 units))) ≡ map (λ place. from + place) (offsets (drop 1 (boundaries_in find (text_by read 0 (drop from units)))))
  goes-on find units restarts k from is =
      let whole = text_by read 0 units in
      let codes = code_points whole.items in
      let (placed, at, offset) = mapped (λ (found : Boundary). found.offset) (boundaries_in find whole) k from is in
      let (counted, found, in_text) = mapped (boundary_in whole) (find codes) k placed at in
      let here : from ≡ start_of (rest_after counted.offset whole) = sym offset ∙ sym (ap (λ (found : Boundary). found.offset) in_text) in
      let rest : text_by read from (drop from units) ≡ rest_after counted.offset whole = seek-text read reader counted.offset from 0 units (omega arith) here in
      let codes_left : drop counted.offset codes ≡ code_points (text_by read 0 (drop from units)).items =
      sym (code_points-drop counted.offset whole.items) ∙ sym (ap (λ (text : Text). code_points text.items) rest) ∙ codes-there from (drop from units) in
      drop-map (λ (found : Boundary). found.offset) (suc k) (boundaries_in find whole)
      ∙ ap offsets (drop-map (boundary_in whole) (suc k) (find codes))
      ∙ ap (λ counted. offsets (map (boundary_in whole) counted)) (restarts k counted found)
      ∙ ap offsets (in-shift whole counted.offset (drop 1 (find (drop counted.offset codes))))
      ∙ ap (λ (text : Text). offsets (map (boundary_in text) (drop 1 (find (drop counted.offset codes))))) (sym rest)
      ∙ ap (λ codes. offsets (map (boundary_in (text_by read from (drop from units))) (drop 1 (find codes)))) codes_left
      ∙ places-there from (drop from units) (drop 1 (find (code_points (text_by read 0 (drop from units)).items)))
      ∙ ap (λ found. map (λ place. from + place) (offsets found)) (sym (drop-map (boundary_in (text_by read 0 (drop from units))) 1 (find (code_points (text_by read 0 (drop from units)).items))))

-- .. and all its boundaries are those before the place, the place, and those of the rest

-- what a list contains stands at an index, behind others and before others
split : (xs : List ℕ) (x : ℕ) → Contains xs x → (i : ℕ) × (slice_get xs i ≡ Some x) × (xs ≡ take i xs ++ x ∷ drop (suc i) xs)
split xs x (i, low, is) =
    let next : i + 1 ≡ suc i = omega arith in (
      i,
      slice_get_read xs (length xs) i x refl low (sym is),
      sym (take-append-drop i xs) ∙ ap (λ rest. take i xs ++ rest) (drop_more xs i x low ∙ ap₂ (λ y n. y ∷ drop n xs) is next),
    )

-- the places of a text's boundaries are those before one place, it, and those of what stands behind it, taken alone
abbrev pub GoesOn : (List ℕ → List Boundary) → (List ℕ → Text) → List ℕ → ℕ → Type 0
GoesOn find decode units from =
    (before : List ℕ) × (offsets (boundaries_in find (decode units)) ≡ before ++ from ∷ map (λ place. from + place) (offsets (drop 1 (boundaries_in find (decode (drop from units))))))

module _ (read : Reader ℕ) (reader : IsReader read) (find : List ℕ → List Boundary) where
  pub behind-boundaries : HasRestart find → (units : List ℕ) (from : ℕ) → Contains (offsets (boundaries_in find (text_by read 0 units))) from
      → GoesOn find (text_by read 0) units from
  behind-boundaries restart units from has =
      let places = offsets (boundaries_in find (text_by read 0 units)) in
      let (i, at, is) = split places from has in
      (take i places, is ∙ ap (λ later. take i places ++ from ∷ later) (goes-on read reader find units (restart (code_points (text_by read 0 units).items)) i from at))

pub behind-utf8 : (find : List ℕ → List Boundary) → HasRestart find → (bytes : List ℕ) (from : ℕ) → Contains (offsets (boundaries_in find (utf8 bytes))) from → GoesOn find utf8 bytes from
unfolding utf8_items
behind-utf8 find restart bytes from has = behind-boundaries read_utf8 read_utf8-stable.reader find restart bytes from has

pub behind-utf16 : (find : List ℕ → List Boundary) → HasRestart find → (units : List ℕ) (from : ℕ) → Contains (offsets (boundaries_in find (utf16 units))) from → GoesOn find utf16 units from
unfolding utf16_items
behind-utf16 find restart units from has = behind-boundaries read_utf16 read_utf16-stable.reader find restart units from has

pub behind-latin1 : (find : List ℕ → List Boundary) → HasRestart find → (bytes : List ℕ) (from : ℕ) → Contains (offsets (boundaries_in find (latin1 bytes))) from → GoesOn find latin1 bytes from
unfolding latin1_items
behind-latin1 find restart bytes from has = behind-boundaries read_latin1 read_latin1-reader find restart bytes from has
