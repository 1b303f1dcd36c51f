-- The words of a segmenter by the machine of typed words are those of UAX #29, with their types.
use Rattle.std.proofs.Common.{◌≡◌, ◌∙◌, ◌∷◌, refl, sym, ap, subst, ℕ, List}
use Rattle.std.specs.Prelude.{Result, Ok, Err, IfOk}
use Rattle.seg_data.specs.declared.provider.DataError.{DataError}
use Rattle.seg_machine.specs.Machine.{Machine}
use Rattle.seg_machine.specs.Pick.{machine_boundaries}
use Rattle.seg_words.proofs.Spans.{without-words}
use Rattle.icu_segmenter.specs.Boundaries.{offsets, start}
use Rattle.icu_segmenter.specs.PairTable.{PairTable}
use Rattle.icu_segmenter.specs.ScriptWords.{no_words}
use Rattle.icu_segmenter.specs.WordRules.{machine_words, word_boundaries_by}
use Rattle.icu_segmenter.specs.Words.{owned_word_rules}
use Rattle.seg_words.specs.declared.word.WordSegmenter.{WordSegmenter}
use Rattle.icu_segmenter_uax29.specs.TypedWords.{typed_word_machine}
use Rattle.icu_segmenter_uax29.specs.Words.{FindsWords, words}
use Rattle.icu_segmenter_uax29.specs.WordTypes.{typed_ends}
use Rattle.icu_segmenter_uax29.proofs.Segments.{finds-pieces}
use Rattle.icu_segmenter_data.specs.Words.{AreWords}

abbrev Law : Type 0
Law = (code_points : List ℕ) → machine_boundaries typed_word_machine code_points ≡ start ∷ typed_ends 0 (words code_points)

by-machine : (clusters : PairTable) → Law → AreWords (machine_words typed_word_machine clusters no_words)
by-machine clusters law code_points =
    without-words typed_word_machine (machine_words typed_word_machine clusters no_words).payloads refl code_points ∙ law code_points

pub are-words : (made : Result WordSegmenter DataError) (m : Machine) (clusters : PairTable) (More : WordSegmenter → Type 0) → m ≡ typed_word_machine → Law
    → IfOk made (λ words. (owned_word_rules words ≡ machine_words m clusters no_words) × More words) → IfOk made (λ words. AreWords (owned_word_rules words))
are-words (Ok words) m clusters More is law h =
    subst AreWords (sym (rw is at h.0)) (by-machine clusters law)
are-words (Err fault) m clusters More is law h = h

finds-by-machine : (clusters : PairTable) → FindsWords (machine_boundaries typed_word_machine)
    → FindsWords (word_boundaries_by (machine_words typed_word_machine clusters no_words))
finds-by-machine clusters law =
    finds-pieces _ _ (λ code_points.
    ap offsets (without-words typed_word_machine (machine_words typed_word_machine clusters no_words).payloads refl code_points) ∙ law.in_lists code_points)

pub finds-words : (made : Result WordSegmenter DataError) (m : Machine) (clusters : PairTable) (More : WordSegmenter → Type 0) → m ≡ typed_word_machine
    → FindsWords (machine_boundaries typed_word_machine) → IfOk made (λ words. (owned_word_rules words ≡ machine_words m clusters no_words) × More words)
    → IfOk made (λ words. FindsWords (word_boundaries_by (owned_word_rules words)))
finds-words (Ok words) m clusters More is law h =
    subst (λ rules. FindsWords (word_boundaries_by rules)) (sym (rw is at h.0)) (finds-by-machine clusters law)
finds-words (Err fault) m clusters More is law h = h
