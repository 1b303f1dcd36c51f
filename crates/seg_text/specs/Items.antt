-- A text is the list of its items, and the place where it ends. An item begins at a place and has a code point; it ends
-- where the next one begins, and the last where the text ends. Places are units of the encoding: bytes in UTF-8 and
-- Latin-1, 16-bit units in UTF-16.
use Rattle.std.specs.Prelude.{◌≡◌, ℕ, zero, suc, ◌+◌, ◌-◌, ◌<◌, ◌≤◌, Bool, List, [], ◌∷◌, length, drop, take, map}
use Rattle.std.specs.List.{prefix_len}

-- the place where it begins, and its code point
abbrev pub Item : Type 0
Item = ℕ × ℕ

pub record Text : Type 0 where
  pub items : List Item
  pub end : ℕ

-- the place of the first item, or the end of the text where there is none
abbrev pub place_of : List Item → ℕ → ℕ
place_of [] end = end
place_of (item ∷ items) end = item.0

-- the place where a text begins
abbrev pub start_of : Text → ℕ
start_of text = place_of text.items text.end

-- the first item, where there is one, isn't ASCII
abbrev pub BeginsWide : List Item → Type 0
BeginsWide [] = Unit {0}
BeginsWide (item ∷ items) = 0x80 ≤ item.1

-- what is left of a text after so many items
abbrev pub rest_after : ℕ → Text → Text
rest_after count text = record { items = drop count text.items; end = text.end }

-- the first so many items of a text, which end where the rest begins: their places stay
abbrev pub text_before : ℕ → Text → Text
text_before count text = record { items = take count text.items; end = start_of (rest_after count text) }

-- the decoded list: what the items are, and not where
abbrev pub code_points : List Item → List ℕ
code_points items = map (λ (item : Item). item.1) items

-- how many of a text's first code points pass a test
abbrev pub prefix_length : (ℕ → Bool) → Text → ℕ
prefix_length passes text = prefix_len passes (code_points text.items)

-- items in a text that begins at a place of theirs
abbrev pub shifted_back : ℕ → List Item → List Item
shifted_back from items = map (λ (item : Item). (item.0 - from, item.1)) items

-- some items after the first so many, as a separate text: its places start at 0 again
abbrev pub slice_of : (skipped count : ℕ) → Text → Text
slice_of skipped count text =
    let from = start_of (rest_after skipped text) in
    record {
      items = shifted_back from (take count (drop skipped text.items));
      end = start_of (rest_after (skipped + count) text) - from;
    }

-- the items tile the units from a place on: each takes one or more units, and is what an encoding reads in
-- them (`Reads`: of the units that are left, so many give this code point); the last one ends with the units
abbrev pub IsTiling : (List ℕ → ℕ → ℕ → Type 0) → List Item → ℕ → List ℕ → Type 0
IsTiling Reads [] place units = units ≡ []
IsTiling Reads (item ∷ items) place units =
    (item.0 ≡ place)
    × ((taken : ℕ) × (0 < taken) × (taken ≤ length units) × Reads units taken item.1
    × IsTiling Reads items (place + taken) (drop taken units))

-- how many units an item takes, and its code point
abbrev pub Reading : Type 0
Reading = ℕ × ℕ

-- what reads the first item of some units
abbrev pub Reader : Type 0 → Type 0
Reader U = List U → Reading

-- the items that a reader finds from a place on, of which there are so many at most
unfoldable pub first_items : {U : Type 0} → Reader U → ℕ → ℕ → List U → List Item
first_items read zero place units = []
first_items read (suc most) place [] = []
first_items read (suc most) place (unit ∷ units) =
    let found = read (unit ∷ units) in
    (place, found.1) ∷ first_items read most (place + found.0) (drop found.0 (unit ∷ units))

-- all items that a reader finds from a place on
unfoldable pub items_by : {U : Type 0} → Reader U → ℕ → List U → List Item
items_by read place units = first_items read (length units) place units

-- each item begins before the next one does, and the last before the end
abbrev pub IsRising : List Item → ℕ → Type 0
IsRising [] end = Unit {0}
IsRising (item ∷ items) end = (item.0 < place_of items end) × IsRising items end

-- the text that a reader finds from a place on
abbrev pub text_by : {U : Type 0} → Reader U → ℕ → List U → Text
text_by read place units = record { items = items_by read place units; end = place + length units }

-- What is seen of a cursor over a text.

-- the place that it is at, and the units that it hasn't read
pub record Rest (U : Type 0) : Type 0 where
  pub place : ℕ
  pub units : List U

-- `later` is where a cursor at `earlier` ends up in the same text, when it goes on
abbrev pub GoesOn : {U : Type 0} → Rest U → Rest U → Type 0
GoesOn earlier later =
    (taken : ℕ) × (taken ≤ length earlier.units)
    × (later.place ≡ earlier.place + taken) × (later.units ≡ drop taken earlier.units)
