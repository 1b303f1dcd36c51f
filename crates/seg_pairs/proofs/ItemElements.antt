-- The items of a text as elements, after some of them.
use Rattle.std.proofs.Common.{◌≡◌, ℕ, List, [], ◌∷◌, drop, refl, sym, ap, ◌∙◌}
use Rattle.std.proofs.lemmas.List.{drop-map}
use Rattle.seg_text.specs.Items.{Item, Text, place_of, start_of, rest_after}
use Rattle.seg_pairs.specs.declared.pair_data.PairDataBorrowed.{PairDataBorrowed}
use Rattle.seg_pairs.specs.Elements.{ItemElement, place_at, element_of, elements_of}

pub elements-drop : (pairs : PairDataBorrowed) (n : ℕ) (items : List Item) → drop n (elements_of pairs items) ≡ elements_of pairs (drop n items)
elements-drop pairs n items = drop-map (element_of pairs) n items

pub elements-place : (pairs : PairDataBorrowed) (items : List Item) (end : ℕ) → place_at (elements_of pairs items) end ≡ place_of items end
elements-place pairs [] end = refl
elements-place pairs (item ∷ items) end = refl

-- a cursor over the same elements, further on: where it stands, and what is left there
module _ (pairs other : PairDataBorrowed) (k : ℕ) (text rest : Text) (later : elements_of other rest.items ≡ drop k (elements_of pairs text.items)) where
  pub later-place : rest.end ≡ text.end → start_of rest ≡ start_of (rest_after k text)
  later-place end =
      sym (elements-place other rest.items rest.end)
      ∙ ap (λ (elements : List ItemElement). place_at elements rest.end) (later ∙ elements-drop pairs k text.items)
      ∙ elements-place pairs (drop k text.items) rest.end
      ∙ ap (place_of (drop k text.items)) end

  pub later-left : (there : Text) → there ≡ rest_after k text → elements_of pairs there.items ≡ elements_of other rest.items
  later-left there is = ap (λ (text : Text). elements_of pairs text.items) is ∙ sym (later ∙ elements-drop pairs k text.items)
