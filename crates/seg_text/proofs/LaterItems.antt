-- Items that stand later: their places are so much greater, and their code points the same.
use Rattle.std.proofs.Common.{◌≡◌, ℕ, zero, suc, ◌+◌, ◌≤◌, List, [], ◌∷◌, map, drop, length, refl, sym, ap, ◌∙◌, arith}
use Rattle.std.proofs.lemmas.List.{length-drop}
use Rattle.seg_text.specs.Items.{Item, Reader, place_of, code_points, items_by}
use Rattle.seg_text.specs.Lemmas.Readers.{IsReader, items_by-nil, items_by-cons}

-- items so much later
abbrev pub later_items : ℕ → List Item → List Item
later_items before items = map (λ (item : Item). (before + item.0, item.1)) items

pub later-codes : (before : ℕ) (items : List Item) → code_points (later_items before items) ≡ code_points items
later-codes before [] = refl
later-codes before (item ∷ items) = ap (λ codes. item.1 ∷ codes) (later-codes before items)

pub later-place : (before end : ℕ) (items : List Item) → place_of (later_items before items) (before + end) ≡ before + place_of items end
later-place before end [] = refl
later-place before end (item ∷ items) = refl

-- items from a later place on are the same, so much later
module _ (read : Reader ℕ) (reader : IsReader read) where
  items-within : (most before place : ℕ) (units : List ℕ) → length units ≤ most → items_by read (before + place) units ≡ later_items before (items_by read place units)
  items-within most before place [] bound = items_by-nil read (before + place) ∙ sym (ap (later_items before) (items_by-nil read place))
  items-within zero before place (unit ∷ units) bound = absurd (omega arith)
  items-within (suc most) before place (unit ∷ units) bound =
      let found = read (unit ∷ units) in
      let left = drop found.0 (unit ∷ units) in
      let fewer : length left ≤ most = omega (arith, length-drop found.0 (unit ∷ units), reader.some unit units) in
      let sum : before + place + found.0 ≡ before + (place + found.0) = omega arith in
      items_by-cons read reader (before + place) unit units
      ∙ ap (λ (at : ℕ). (before + place, found.1) ∷ items_by read at left) sum
      ∙ ap (λ (later : List Item). (before + place, found.1) ∷ later) (items-within most before (place + found.0) left fewer)
      ∙ sym (ap (later_items before) (items_by-cons read reader place unit units))

  pub items-later : (before : ℕ) (units : List ℕ) → items_by read before units ≡ later_items before (items_by read 0 units)
  items-later before units =
      let same : before ≡ before + 0 = omega arith in
      ap (λ (place : ℕ). items_by read place units) same ∙ items-within (length units) before 0 units (omega arith)
