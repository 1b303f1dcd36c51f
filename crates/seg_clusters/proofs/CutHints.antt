-- How many cuts are left of a piece.
use Rattle.std.proofs.Common.{◌≡◌, ℕ, suc, ◌+◌, ◌-◌, ◌<◌, ◌≤◌, List, [], ◌∷◌, length, arith}
use Rattle.std.specs.Prelude.{Option, IfSome, min}
use Rattle.std.specs.Iterator.{UpTo, at_most}
use Rattle.std.specs.Iterator.SizeHint.{IsWithinCount}
use Rattle.std.proofs.lemmas.List.{length-map}
use Rattle.seg_text.specs.Boundaries.{IsCover, RisesTo, cut_places, with_status, boundary}
use Rattle.seg_text.specs.Items.{Item, Text, IsRising, code_points, start_of, rest_after}
use Rattle.seg_text.proofs.Hints.{items-few, rising-few}
use Rattle.seg_data.specs.WordSets.{Words}
use Rattle.seg_clusters.specs.DictionaryCuts.{Clusters, dictionary_cuts}
use Rattle.seg_clusters.specs.Scripts.{later_places}
use Rattle.seg_clusters.proofs.WordCuts.{dictionary-covers}

some-cut : (cuts : List ℕ) (count : ℕ) → RisesTo 0 (with_status 0 cuts) (suc count) → 0 < length cuts
some-cut [] count rises = absurd (omega (arith, rises))
some-cut (cut ∷ cuts) count rises = omega arith

module _ (words : Words) (clusters : Clusters) (cover : (xs : List ℕ) → IsCover 0 (length xs) (clusters xs)) where
  places-are : (text : Text) → length (cut_places (dictionary_cuts words clusters) text) ≡ length (dictionary_cuts words clusters (code_points text.items))
  places-are text = length-map (dictionary_cuts words clusters (code_points text.items)) (λ (cut : ℕ). start_of (rest_after cut text))

  -- each is a unit or more after the one before, and the last at the piece's end
  pub cuts-few : (text : Text) → IsRising text.items text.end → length (cut_places (dictionary_cuts words clusters) text) ≤ text.end - start_of text
  cuts-few text rising =
      let cuts = dictionary_cuts words clusters (code_points text.items) in
      let most = rising-few (with_status 0 cuts) 0 (length (code_points text.items)) (dictionary-covers words clusters cover (code_points text.items)) in
      omega (arith, most, places-are text, length-map cuts (λ (cut : ℕ). boundary cut 0), length-map text.items (λ (item : Item). item.1), items-few text.items text.end rising)

  -- so there is one, unless no item is left
  some-of : (items : List Item) (end : ℕ) → let text : Text = record { items = items; end = end } in
      min (end - start_of text) 1 ≤ length (dictionary_cuts words clusters (code_points items))
  some-of [] end = omega arith
  some-of (item ∷ items) end =
      let some = some-cut (dictionary_cuts words clusters (code_points (item ∷ items))) (length (code_points items)) (dictionary-covers words clusters cover (code_points (item ∷ items))) in
      omega (arith, some)

  pub cuts-some : (text : Text) → min (text.end - start_of text) 1 ≤ length (cut_places (dictionary_cuts words clusters) text)
  cuts-some text = rw (places-are text) (some-of text.items text.end)

-- cuts that stand later are as many
pub later-lower : (offset : ℕ) (places : List ℕ) (lower : ℕ) → IsWithinCount lower (at_most (length places)) → IsWithinCount lower (at_most (length (later_places offset places)))
later-lower offset places lower few = rw (length-map places (λ (place : ℕ). offset + place)) few

pub later-upper : (offset : ℕ) (places : List ℕ) (upper : Option ℕ) → IfSome upper (UpTo (at_most (length places)))
    → IfSome upper (UpTo (at_most (length (later_places offset places))))
later-upper offset places upper few = rw (length-map places (λ (place : ℕ). offset + place)) few
