-- Words: the faults of their data, and what is seen of segmenters and iterators.
use Rattle.std.specs.Prelude.{◌≡◌, ◌⊎◌, Option, None, ℕ, List, map}
use Rattle.seg_text.specs.declared.boundary.Boundary.{Boundary}
use Rattle.seg_text.specs.Boundaries.{offsets, Remainder}
use Rattle.seg_data.specs.declared.provider.DataError.{DataError}
use Rattle.seg_data.specs.declared.provider.DataError.TheVariants.{ClassOutOfRange, StartRowKeeps, ComplexBelow0100}
use Rattle.seg_data.specs.Table.{Table}
use Rattle.seg_data.specs.ScriptWords.{script_words}
use Rattle.seg_pairs.specs.PairTable.{PairTable}
use Rattle.seg_pairs.specs.PairData.{HasPairDataFault, HasComplexClassBelow0100}
use Rattle.seg_machine.specs.Machine.{Machine}
use Rattle.seg_machine.specs.MachineFaults.{HasComplexBelow0100}
use Rattle.seg_clusters.specs.Rules.{rules_of, owned_rules}
use Rattle.seg_clusters.specs.Clusters.{owned_cluster_rules}
use Rattle.seg_clusters.specs.Payloads.{payloads_of}
use Rattle.seg_words.specs.declared.word.WordType.{WordType}
use Rattle.seg_words.specs.declared.word.WordSegmenter.{WordSegmenter}
use Rattle.seg_words.specs.declared.word.WordSegmenterBorrowed.{WordSegmenterBorrowed}
use Rattle.seg_words.specs.declared.word.WordBreakIterator.{WordBreakIterator}
use Rattle.seg_words.specs.declared.word.WordBreakIteratorWithWordType.{WordBreakIteratorWithWordType}
use Rattle.seg_words.specs.WordRules.{WordRules, type_of}
use Rattle.seg_words.specs.declared.boundaries.WordBoundaries.{WordBoundaries}
use Rattle.seg_words.specs.declared.boundaries.WordBoundaries.TheVariants.{Classic, Neo, NeoWithWords}

-- The faults of the data of words: those of the words' own table or machine, and those of the pair table of clusters.

-- the faults of a pair table of words with its override
abbrev pub HasOwnFault : PairTable → Option Table → DataError → Type 0
-- a class that the override names isn't below the number of classes
HasOwnFault t overriding ClassOutOfRange = HasPairDataFault t overriding ClassOutOfRange
-- no boundary stands between the text's start and a class that the table or the override names
HasOwnFault t overriding StartRowKeeps = HasPairDataFault t overriding StartRowKeeps
-- a code point below U+0100 is complex
HasOwnFault t overriding ComplexBelow0100 = HasComplexClassBelow0100 t overriding
HasOwnFault t overriding _ = ⊥

-- .. and those of clusters: no boundary stands between the text's start and some class, or some code points are complex
abbrev pub HasWordTableFault : PairTable → Option Table → PairTable → DataError → Type 0
HasWordTableFault t overriding clusters fault = HasOwnFault t overriding fault ⊎ HasPairDataFault clusters None fault

-- the faults of a machine of words, which is that a code point below U+0100 has a script, and those of clusters
abbrev pub HasWordMachineFault : Machine → PairTable → DataError → Type 0
HasWordMachineFault m clusters fault =
    ((fault ≡ ComplexBelow0100) × HasComplexBelow0100 m) ⊎ HasPairDataFault clusters None fault

-- What is seen of the segmenters of words.

-- what a segmenter finds boundaries by
abbrev pub word_rules : WordSegmenterBorrowed → WordRules
word_rules segmenter = record { rules = rules_of segmenter.engine; payloads = payloads_of segmenter.payloads }

abbrev pub owned_word_rules : WordSegmenter → WordRules
owned_word_rules segmenter = record {
  rules = owned_rules segmenter.engine;
  payloads = record { words = script_words segmenter.dictionaries; clusters = owned_cluster_rules segmenter.clusters };
}

-- the boundaries that an iterator has still to give, and their places
abbrev pub words_left : {I : Type 0} → WordBreakIterator I → List Boundary
words_left iterator = iterator.boundaries.left

abbrev pub word_places : {I : Type 0} → WordBreakIterator I → List ℕ
word_places iterator = offsets (words_left iterator)

-- the type of what ends at the boundary that was given last
abbrev pub word_type : {I : Type 0} → WordBreakIterator I → WordType
word_type iterator = type_of iterator.boundaries.status

-- boundaries as their places, each with the type of what ends there
abbrev pub with_types : List Boundary → List (ℕ × WordType)
with_types boundaries = map (λ (boundary : Boundary). (boundary.offset, type_of boundary.status)) boundaries

abbrev pub typed_places : {I : Type 0} → WordBreakIteratorWithWordType I → List (ℕ × WordType)
typed_places iterator = with_types (words_left iterator.words)

-- what an iterator finds boundaries by, and the cursor at the start of its text
abbrev pub word_finder : {I : Type 0} → WordBreakIterator I → WordRules
word_finder iterator = word_rules iterator.segmenter

abbrev pub words_source : {I : Type 0} → WordBreakIterator I → I
words_source iterator = iterator.whole

-- What either engine of words has still to give.

abbrev pub word_remainder_by : {I : Type 0} → WordBoundaries I → Remainder
word_remainder_by (Classic remainder) = remainder
word_remainder_by (Neo remainder) = remainder
word_remainder_by (NeoWithWords remainder) = remainder
