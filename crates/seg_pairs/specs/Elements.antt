-- Elements of a text.
use Rattle.std.specs.Prelude.{ℕ, Option, Some, None, List, [], ◌∷◌, map, ◌≡◌, ◌<◌, IfSome}
use Rattle.seg_text.specs.Items.{Text, Item}
use Rattle.seg_pairs.specs.declared.pair_data.PairDataBorrowed.{PairDataBorrowed}
use Rattle.seg_pairs.specs.PairData.{class_by, pair_table_of}
use Rattle.seg_pairs.specs.declared.elements.Element.{Element}

abbrev pub classes_of : {D : Type 0} → List (Element D) → List ℕ
classes_of {D} elements = map (λ (element : Element D). element.class) elements

-- an element that may be there, and those after it
abbrev pub onto : {D : Type 0} → Option (Element D) → List (Element D) → List (Element D)
onto None elements = elements
onto (Some element) elements = element ∷ elements

-- elements as a text in which classes take the place of code points
abbrev pub class_text : {D : Type 0} → List (Element D) → ℕ → Text
class_text {D} elements end = record { items = map (λ (element : Element D). (element.place, element.class)) elements; end = end }

-- the place of the first element, or the end of the text where there is none
abbrev pub place_at : {D : Type 0} → List (Element D) → ℕ → ℕ
place_at [] end = end
place_at (element ∷ elements) end = element.place

-- The items of a text as elements.

abbrev pub ItemElement : Type 0
ItemElement = Element (Unit {0})

-- an item with the class of its code point
abbrev pub element_of : PairDataBorrowed → Item → ItemElement
element_of pairs item = record { class = class_by pairs item.1; place = item.0; detail = tt }

abbrev pub elements_of : PairDataBorrowed → List Item → List ItemElement
elements_of pairs items = map (element_of pairs) items

-- A text as items and as elements, of which the first is read already.

-- the first element, where there is one, and the elements of the rest are those of the text
pub record IsElementAhead (pairs : PairDataBorrowed) (text : Text) (next : Option ItemElement) (rest_pairs : PairDataBorrowed) (rest : Text) : Type 0 where
  pub same : onto next (elements_of rest_pairs rest.items) ≡ elements_of pairs text.items
  pub same_end : rest.end ≡ text.end
  pub same_table : pair_table_of rest_pairs ≡ pair_table_of pairs
  pub empty : next ≡ None → rest.items ≡ []
  pub below : IfSome next (λ next. next.class < (pair_table_of pairs).property_count)
