-- Words that are read as texts, one by one.
use Rattle.std.proofs.Common.{◌≡◌, ℕ, suc, ◌+◌, ◌<◌, List, [], ◌∷◌, ◌++◌, length, take, get_or, sym, ap, ap₂, ◌∙◌, arith}
use Rattle.std.proofs.Math.Seq.{take-suc}
use Rattle.std.proofs.lemmas.List.{map-append}
use Rattle.std.proofs.lemmas.List.Elements.{All-push}
use Rattle.std.specs.Borrow.{Bor}
use Rattle.std.specs.Prelude.{IsUtf8, chars}
use Rattle.icu_segmenter.specs.WordSets.{code_points_of_each}
use Rattle.yengatomu_segmenter.specs.Loaded.{AreUtf8}

abbrev Word : Type 0
Word = Bor (List ℕ)

one-more : (words : List Word) (i : ℕ) (other : Word) → i < length words → take (i + 1) words ≡ take i words ++ get_or words i other ∷ []
one-more words i other inside =
    let next : i + 1 ≡ suc i = omega arith in
    ap (λ n. take n words) next ∙ take-suc words i other inside

pub one-text : (words texts : List Word) (i : ℕ) (other text : Word) → i < length words → text.now ≡ (get_or words i other).now
    → code_points_of_each texts ≡ code_points_of_each (take i words) → code_points_of_each (texts ++ text ∷ []) ≡ code_points_of_each (take (i + 1) words)
one-text words texts i other text inside is so_far =
    map-append (λ (word : Word). chars word.now) texts (text ∷ [])
    ∙ ap₂ (λ front last. front ++ chars last ∷ []) so_far is
    ∙ sym (map-append (λ (word : Word). chars word.now) (take i words) (get_or words i other ∷ []))
    ∙ sym (ap code_points_of_each (one-more words i other inside))

pub one-utf8 : (words : List Word) (i : ℕ) (other : Word) → i < length words → IsUtf8 (get_or words i other).now → AreUtf8 (take i words) → AreUtf8 (take (i + 1) words)
one-utf8 words i other inside is so_far =
    rw (one-more words i other inside) (All-push (λ (word : Word). IsUtf8 word.now) (take i words) (get_or words i other) so_far is)
