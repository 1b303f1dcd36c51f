-- Lemmas: the longest beginning of a text whose code points pass a test has its items in order, as the text has.
use Rattle.std.specs.Prelude.{ℕ, zero, suc, Bool, List, [], ◌∷◌, drop, take}
use Rattle.seg_text.specs.Items.{Item, Text, IsRising, place_of, prefix_length, text_before}

rising-take : (items : List Item) (end n : ℕ) → IsRising items end → IsRising (take n items) (place_of (drop n items) end)
rising-take items end zero rising = tt
rising-take [] end (suc n) rising = tt
rising-take (item ∷ []) end (suc zero) rising = (rising.0, tt)
rising-take (item ∷ []) end (suc (suc n)) rising = (rising.0, tt)
rising-take (item ∷ next ∷ items) end (suc zero) rising = (rising.0, tt)
rising-take (item ∷ next ∷ items) end (suc (suc n)) rising = (rising.0, rising-take (next ∷ items) end (suc n) rising.1)

pub prefix-rises : (passes : ℕ → Bool) (text : Text) → IsRising text.items text.end
    → let prefix = text_before (prefix_length passes text) text in IsRising prefix.items prefix.end
prefix-rises passes text rising = rising-take text.items text.end (prefix_length passes text) rising
