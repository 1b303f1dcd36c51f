-- What a slot holds: a segmenter of one kind, what it finds boundaries by, and how it counts columns.
use Rattle.std.specs.Prelude.{◌≡◌, ℕ, zero, suc, ◌+◌, ◌==◌, if◌then◌else◌, Option, None, Some, List, ◌∷◌, ◌++◌, drop, map}
use Rattle.std.specs.Option.{option_map}
use Rattle.icu_segmenter.specs.Abbreviations.{abbreviations_of}
use Rattle.icu_segmenter.specs.Boundary.{Boundary}
use Rattle.icu_segmenter.specs.Boundaries.{boundaries_in, offsets}
use Rattle.icu_segmenter.specs.Clusters.{owned_cluster_rules, owned_sentence_rules}
use Rattle.icu_segmenter.specs.Items.{Text}
use Rattle.icu_segmenter.specs.LineBreaks.{LineRules, LinesResetAfter, line_boundaries_by, lines_with_words}
use Rattle.icu_segmenter.specs.Lines.{owned_line_rules}
use Rattle.icu_segmenter.specs.Rules.{ResetsAfter, Rules, boundaries_by}
use Rattle.icu_segmenter.specs.ScriptWords.{ScriptWords}
use Rattle.icu_segmenter.specs.Suppression.{without_abbreviated}
use Rattle.icu_segmenter.specs.WordRules.{WordRules, WordsResetWith, word_boundaries_by}
use Rattle.icu_segmenter.specs.WordSets.{Words as Abbreviations}
use Rattle.icu_segmenter.specs.Words.{owned_word_rules}
use Rattle.yengatomu_segmenter.specs.declared.segmenter.Segmenter.{Segmenter}
use Rattle.yengatomu_segmenter.specs.declared.segmenter.Segmenter.TheVariants as held

-- sentences go on after abbreviations, if there are some; and lines count their columns by the clusters of some rules, or by character where
-- there are none
pub data Finder : Type 0 where
  Clusters : Rules → Finder
  Words : WordRules → Finder
  Sentences : Rules → Option Abbreviations → Finder
  Lines : LineRules → Option Rules → Finder

-- what finds boundaries, but for those that abbreviations suppress, if there are some
abbrev pub suppressed_by : Option Abbreviations → (List ℕ → List Boundary) → List ℕ → List Boundary
suppressed_by None find = find
suppressed_by (Some abbreviations) find = without_abbreviated abbreviations find

-- the boundaries of a list of code points
abbrev pub find_by : Finder → List ℕ → List Boundary
find_by (Clusters rules) = boundaries_by rules
find_by (Words rules) = word_boundaries_by rules
find_by (Sentences rules abbreviations) = suppressed_by abbreviations (boundaries_by rules)
find_by (Lines rules clusters) = line_boundaries_by rules

-- what the mark of a boundary with a status is: of words the type of what ends there, of lines whether the line must end there
abbrev pub mark_by : Finder → ℕ → ℕ
mark_by (Clusters rules) status = 0
mark_by (Words rules) zero = 0
mark_by (Words rules) (suc zero) = 1
mark_by (Words rules) (suc (suc status)) = 2
mark_by (Sentences rules abbreviations) status = 0
mark_by (Lines rules clusters) status = if status == 1 then 1 else 0

abbrev pub finder_of : Segmenter → Finder
finder_of (held.Clusters clusters) = Clusters (owned_cluster_rules clusters)
finder_of (held.Words words) = Words (owned_word_rules words)
finder_of (held.Sentences sentences abbreviations) = Sentences (owned_sentence_rules sentences) (option_map abbreviations_of abbreviations)
finder_of (held.Lines lines clusters) = Lines (owned_line_rules lines) (option_map owned_cluster_rules clusters)

-- The boundaries of a text that stands in some units, which this decodes.

-- those behind its start where it is taken alone from one place on
abbrev pub boundaries_behind : Finder → (List ℕ → Text) → List ℕ → ℕ → List Boundary
boundaries_behind finder decode units from = drop 1 (boundaries_in (find_by finder) (decode (drop from units)))

-- their places in the whole text, and their marks
abbrev pub places_behind : Finder → (List ℕ → Text) → List ℕ → ℕ → List ℕ
places_behind finder decode units from = map (λ place. from + place) (offsets (boundaries_behind finder decode units from))

abbrev pub marks_behind : Finder → (List ℕ → Text) → List ℕ → ℕ → List ℕ
marks_behind finder decode units from =
    map (λ (boundary : Boundary). mark_by finder boundary.status) (boundaries_behind finder decode units from)

-- the places of all boundaries of the text
abbrev pub places_in : Finder → (List ℕ → Text) → List ℕ → List ℕ
places_in finder decode units = offsets (boundaries_in (find_by finder) (decode units))

-- a line feed resets what boundaries are found by, whatever words of scripts or abbreviations it has: so texts may be split after line feeds
abbrev pub LineFeedsReset : Finder → Type 0
LineFeedsReset (Clusters rules) = ResetsAfter rules 0x0A
LineFeedsReset (Words rules) = (words : ScriptWords) → WordsResetWith rules.rules words 0x0A
LineFeedsReset (Sentences rules abbreviations) = ResetsAfter rules 0x0A
LineFeedsReset (Lines rules clusters) = (words : ScriptWords) → LinesResetAfter (lines_with_words rules words) 0x0A

-- all boundaries of the text are some, then the place, and then those of the rest
abbrev pub GoesOnAt : Finder → (List ℕ → Text) → List ℕ → ℕ → Type 0
GoesOnAt finder decode units from =
    (before : List ℕ) × (places_in finder decode units ≡ before ++ from ∷ places_behind finder decode units from)
