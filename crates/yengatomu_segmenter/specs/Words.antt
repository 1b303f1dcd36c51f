-- How many words a text has.
use Rattle.std.specs.Prelude.{ℕ, List, length}
use Rattle.icu_segmenter.specs.Items.{Text}
use Rattle.icu_segmenter.specs.TextSegments.{segments_of, words_of}
use Rattle.icu_segmenter.specs.WordRules.{type_of, word_boundaries_of}
use Rattle.yengatomu_segmenter.specs.Finders.{Finder}
use Rattle.yengatomu_segmenter.specs.Finders.Finder.{Clusters, Words, Sentences, Lines}

-- the words in a text that stands in some units, which this decodes; only words have them
abbrev pub word_count : Finder → (List ℕ → Text) → List ℕ → ℕ
word_count (Clusters rules) decode units = 0
word_count (Words rules) decode units = length (words_of (segments_of type_of units (word_boundaries_of rules (decode units))))
word_count (Sentences rules abbreviations) decode units = 0
word_count (Lines rules clusters) decode units = 0
