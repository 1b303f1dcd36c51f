-- What holds of each of some words.
use Rattle.std.proofs.Common.{◌≡◌, ℕ, ◌+◌, ◌<◌, List, get_or, length, take, Contains, inl, inr, subst, ap, ◌∙◌}
use Rattle.std.specs.Borrow.{Bor}
use Rattle.std.specs.Str.{chars}
use Rattle.std.proofs.lemmas.List.{map_more}
use Rattle.std.proofs.Math.Seq.{take-length}
use Rattle.std.proofs.lemmas.List.Elements.{Contains-push_cases}
use Rattle.seg_data.specs.WordSets.{Words, code_points_of_each}

module _ (P : List ℕ → Type 0) where
  abbrev pub OfEach : Words → Type 0
  OfEach words = (word : List ℕ) → Contains words word → P word

  -- one word more
  pub each-more : (words : List (Bor (List ℕ))) (i : ℕ) (d : Bor (List ℕ)) → i < length words → OfEach (code_points_of_each (take i words))
      → P (chars (get_or words i d).now) → OfEach (code_points_of_each (take (i + 1) words))
  each-more words i d inside each last word has =
      elim (Contains-push_cases (code_points_of_each (take i words)) (chars (get_or words i d).now) word
      (subst (λ (all : Words). Contains all word) (map_more (λ (text : Bor (List ℕ)). chars text.now) words i d inside) has)) [
        | inl before ↦ each word before
        | inr is ↦ subst P is last
      ]

  -- all of them
  pub each-taken : (words : List (Bor (List ℕ))) (i : ℕ) → i ≡ length words → OfEach (code_points_of_each (take i words)) → OfEach (code_points_of_each words)
  each-taken words i all each =
      subst (λ (words : List (Bor (List ℕ))). OfEach (code_points_of_each words)) (ap (λ (n : ℕ). take n words) all ∙ take-length words) each
