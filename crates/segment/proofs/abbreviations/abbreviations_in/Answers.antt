-- The words that are taken are those of the list.
use Rattle.std.proofs.Common.{◌≡◌, ℕ, List, [], ◌∷◌, map, refl, ap, subst, ◌∙◌}
use Rattle.std.specs.Borrow.{Bor}
use Rattle.std.specs.Str.{chars}
use Rattle.icu_segmenter.specs.Abbreviations.{abbreviations_of}
use Rattle.icu_segmenter.specs.WordSets.{IsSameSet, Words, code_points_of_each}
use Rattle.segment.proofs.abbreviations.abbreviations_in.Goals as goal

code-points-are : (texts : List (Bor (List ℕ))) → code_points_of_each texts ≡ map chars (map (λ text. text.now) texts)
code-points-are [] = refl
code-points-are (text ∷ texts) = ap (λ (words : Words). chars text.now ∷ words) (code-points-are texts)

pub returns-2 : goal.returns-2
returns-2 c =
    subst (λ (words : Words). IsSameSet (abbreviations_of c.in_ok-try_from_words.field-0) words)
    (ap (λ (texts : List (Bor (List ℕ))). code_points_of_each texts) c.as_slice.ensures.value
    ∙ code-points-are c.in_ok-words.words.items
    ∙ ap (λ (words : List (List ℕ)). map chars words) c.in_ok-words.ensures)
    c.in_ok-try_from_words.ensures.made.0
