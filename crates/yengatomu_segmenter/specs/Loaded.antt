-- Dictionaries that a caller loads.
use Rattle.std.specs.Prelude.{◌≡◌, ◌⊎◌, ℕ, zero, suc, Bool, true, false, All, IfSome, IsTrue, IsUtf8, Option, Some, None, List, [], ◌∷◌, slice_get}
use Rattle.std.specs.Option.{option_and_then}
use Rattle.std.specs.Borrow.{Bor}
use Rattle.icu_segmenter.specs.LineBreaks.{lines_with_words}
use Rattle.icu_segmenter.specs.Lines.{without_ja}
use Rattle.icu_segmenter.specs.ScriptWords.{ScriptWords, filled, no_words}
use Rattle.icu_segmenter.specs.WordRules.{with_words}
use Rattle.icu_segmenter.specs.WordSets.{IsSameSet, Words as Dictionary, code_points_of_each}
use Rattle.icu_segmenter.specs.declared.provider.ComplexScript.{ComplexScript}
use Rattle.icu_segmenter.specs.declared.provider.ComplexScript.TheVariants as named
use Rattle.yengatomu_segmenter.specs.Finders.{Finder}
use Rattle.yengatomu_segmenter.specs.Finders.Finder.{Clusters, Words, Sentences, Lines}
use Rattle.yengatomu_segmenter.specs.declared.dictionary.Refusal.{Refusal}
use Rattle.yengatomu_segmenter.specs.declared.dictionary.Refusal.TheVariants.{Memory, NoSuch, NotUtf8}

-- scripts, each at its number, and none at 0
abbrev pub scripts : List (Option ComplexScript)
scripts = None ∷ Some named.Myanmar ∷ Some named.ChineseOrJapanese ∷ Some named.Khmer ∷ Some named.Lao ∷ Some named.Thai ∷ []

abbrev pub numbered_script : ℕ → Option ComplexScript
numbered_script number = option_and_then (λ script. script) (slice_get scripts number)

-- the words of one script
abbrev pub only : ComplexScript → Dictionary → ScriptWords
only named.None words = no_words
only named.Myanmar words = record no_words { my = Some words }
only named.ChineseOrJapanese words = record no_words { ja = Some words }
only named.Khmer words = record no_words { km = Some words }
only named.Lao words = record no_words { lo = Some words }
only named.Thai words = record no_words { th = Some words }

-- words and lines take the words of scripts
abbrev pub takes_words : Finder → Bool
takes_words (Clusters rules) = false
takes_words (Words rules) = true
takes_words (Sentences rules abbreviations) = false
takes_words (Lines rules clusters) = true

-- .. of which they have none yet
abbrev pub with_dictionary : Finder → ScriptWords → Finder
with_dictionary (Clusters rules) words = Clusters rules
with_dictionary (Words rules) words = Words (with_words rules (filled rules.payloads.words words))
with_dictionary (Sentences rules abbreviations) words = Sentences rules abbreviations
with_dictionary (Lines rules clusters) words = Lines (lines_with_words rules (filled rules.payloads.words (without_ja words))) clusters

abbrev pub AreUtf8 : List (Bor (List ℕ)) → Type 0
AreUtf8 words = All (λ (word : Bor (List ℕ)). IsUtf8 word.now) words

-- what finds boundaries has taken the words of a script, as a set of any order
abbrev pub HasTaken : List (Bor (List ℕ)) → ComplexScript → Finder → Finder → Type 0
HasTaken words script old new =
    IsTrue (takes_words old) × AreUtf8 words
    × ((dictionary : Dictionary) × IsSameSet dictionary (code_points_of_each words) × (new ≡ with_dictionary old (only script dictionary)))

-- there is no such script, or no words are taken
abbrev pub TakesNone : Option ComplexScript → Finder → Type 0
TakesNone script old = (script ≡ None) ⊎ (takes_words old ≡ false)

-- why nothing is taken
abbrev pub IsWhy : List (Bor (List ℕ)) → Option ComplexScript → Finder → Refusal → Type 0
IsWhy words script old Memory = Unit {0}
IsWhy words script old NoSuch = TakesNone script old
IsWhy words script old NotUtf8 = AreUtf8 words → ⊥

-- What `load_dictionary` says: 0 where the slot's finder has taken the words; 1 when out of memory; 2 where none are taken; 3 where they
-- aren't UTF-8. But for 0 the slot is as it was.
abbrev pub IsLoaded : List (Bor (List ℕ)) → Option ComplexScript → Option Finder → Option Finder → ℕ → Type 0
IsLoaded words script old new zero =
    (which : ComplexScript) × (before after : Finder) × (script ≡ Some which) × (old ≡ Some before) × (new ≡ Some after) × HasTaken words which before after
IsLoaded words script old new (suc zero) = new ≡ old
IsLoaded words script old new (suc (suc zero)) = (new ≡ old) × IfSome old (TakesNone script)
IsLoaded words script old new (suc (suc (suc zero))) = (new ≡ old) × (AreUtf8 words → ⊥)
IsLoaded words script old new (suc (suc (suc (suc _)))) = ⊥
