-- Abbreviations that a caller loads.
use Rattle.std.specs.Prelude.{◌≡◌, ℕ, zero, suc, Bool, true, false, IfSome, IsTrue, Option, Some, None, List}
use Rattle.std.specs.Borrow.{Bor}
use Rattle.icu_segmenter.specs.InLines.{AreInLines}
use Rattle.icu_segmenter.specs.WordSets.{IsSameSet, Words as Abbreviations, code_points_of_each}
use Rattle.yengatomu_segmenter.specs.Finders.{Finder}
use Rattle.yengatomu_segmenter.specs.Finders.Finder.{Clusters, Words, Sentences, Lines}
use Rattle.yengatomu_segmenter.specs.Loaded.{AreUtf8}
use Rattle.yengatomu_segmenter.specs.declared.abbreviations.Refusal.{Refusal}
use Rattle.yengatomu_segmenter.specs.declared.abbreviations.Refusal.TheVariants.{Memory, NoSuch, WrongWord}

-- sentences take abbreviations, if they have none yet
abbrev pub takes_abbreviations : Finder → Bool
takes_abbreviations (Clusters rules) = false
takes_abbreviations (Words rules) = false
takes_abbreviations (Sentences rules None) = true
takes_abbreviations (Sentences rules (Some abbreviations)) = false
takes_abbreviations (Lines rules clusters) = false

abbrev pub with_abbreviations : Finder → Abbreviations → Finder
with_abbreviations (Clusters rules) abbreviations = Clusters rules
with_abbreviations (Words rules) abbreviations = Words rules
with_abbreviations (Sentences rules before) abbreviations = Sentences rules (Some abbreviations)
with_abbreviations (Lines rules clusters) abbreviations = Lines rules clusters

-- words can be abbreviations: they are UTF-8, and have no line feeds
abbrev pub CanAbbreviate : List (Bor (List ℕ)) → Type 0
CanAbbreviate words = AreUtf8 words × AreInLines (code_points_of_each words)

-- what finds boundaries has taken these abbreviations, as a set of any order
abbrev pub HasTaken : List (Bor (List ℕ)) → Finder → Finder → Type 0
HasTaken words old new =
    IsTrue (takes_abbreviations old) × CanAbbreviate words
    × ((abbreviations : Abbreviations) × IsSameSet abbreviations (code_points_of_each words) × (new ≡ with_abbreviations old abbreviations))

-- why nothing is taken
abbrev pub IsWhy : List (Bor (List ℕ)) → Finder → Refusal → Type 0
IsWhy words old Memory = Unit {0}
IsWhy words old NoSuch = takes_abbreviations old ≡ false
IsWhy words old WrongWord = CanAbbreviate words → ⊥

-- What `load_abbreviations` says: 0 where the slot's finder has taken them; 1 when out of memory; 2 where it takes none; 3 where a word can't
-- be one. But for 0 the slot is as it was.
abbrev pub AreLoaded : List (Bor (List ℕ)) → Option Finder → Option Finder → ℕ → Type 0
AreLoaded words old new zero = (before after : Finder) × (old ≡ Some before) × (new ≡ Some after) × HasTaken words before after
AreLoaded words old new (suc zero) = new ≡ old
AreLoaded words old new (suc (suc zero)) = (new ≡ old) × IfSome old (λ finder. takes_abbreviations finder ≡ false)
AreLoaded words old new (suc (suc (suc zero))) = (new ≡ old) × (CanAbbreviate words → ⊥)
AreLoaded words old new (suc (suc (suc (suc _)))) = ⊥
