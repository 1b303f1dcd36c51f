-- What the pieces of runs are cut by.
use Rattle.std.specs.Prelude.{ℕ, List}
use Rattle.std.specs.Option.{option_to_list}
use Rattle.seg_text.specs.Boundaries.{Cuts}
use Rattle.seg_data.specs.WordSets.{Words}
use Rattle.seg_data.specs.ScriptWords.{words_of, ScriptWords, borrowed_words, words_in}
use Rattle.seg_clusters.specs.Rules.{Rules, boundaries_by}
use Rattle.seg_clusters.specs.Clusters.{cluster_rules}
use Rattle.seg_clusters.specs.declared.complex.ComplexIterator.{ComplexIterator}
use Rattle.seg_clusters.specs.declared.complex.ComplexPayloadBorrowed.{ComplexPayloadBorrowed}
use Rattle.seg_clusters.specs.declared.complex.ComplexPayloadBorrowed.TheVariants.{Dict}
use Rattle.seg_clusters.specs.declared.complex.ComplexPayloadsBorrowed.{ComplexPayloadsBorrowed}
use Rattle.seg_clusters.specs.declared.runs.PieceIterator.{PieceIterator}
use Rattle.seg_clusters.specs.declared.runs.PieceIterator.TheVariants.{End, Words as ByWords}
use Rattle.seg_clusters.specs.DictionaryCuts.{by_dictionaries}
use Rattle.seg_clusters.specs.Scripts.{PieceCuts, run_cuts}

-- the words of each script that has a dictionary, and what clusters are found by
pub record Payloads : Type 0 where
  pub words : ScriptWords
  pub clusters : Rules

abbrev pub payloads_of : ComplexPayloadsBorrowed → Payloads
payloads_of payloads = record { words = borrowed_words payloads.dictionaries; clusters = cluster_rules payloads.clusters }

-- each piece is cut by the words of its script, or, where that has none, at its end alone
abbrev pub piece_cuts_by : Payloads → PieceCuts
piece_cuts_by payloads = by_dictionaries (words_in payloads.words) (boundaries_by payloads.clusters)

-- the cuts of a run are those of its pieces
abbrev pub run_cuts_by : Payloads → Cuts
run_cuts_by payloads = run_cuts (piece_cuts_by payloads)

-- the cuts that are left of a piece
abbrev pub piece_left : {I : Type 0} → PieceIterator I → List ℕ
piece_left (End place) = option_to_list place
piece_left (ByWords cuts) = cuts

-- the words of a dictionary that one piece is cut by
abbrev pub payload_words : ComplexPayloadBorrowed → Words
payload_words (Dict dictionary) = words_of dictionary.now

-- the cuts that an iterator has still to give
abbrev pub complex_left : {Y C I : Type 0} → ComplexIterator Y C I → List ℕ
complex_left iterator = iterator.cuts
