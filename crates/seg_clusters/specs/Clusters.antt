-- What is seen of the segmenters of grapheme clusters and sentences (UAX #29).
use Rattle.std.specs.Prelude.{ℕ, List}
use Rattle.seg_text.specs.declared.boundary.Boundary.{Boundary}
use Rattle.seg_text.specs.Boundaries.{offsets}
use Rattle.seg_clusters.specs.declared.grapheme.GraphemeClusterSegmenter.{GraphemeClusterSegmenter}
use Rattle.seg_clusters.specs.declared.grapheme.GraphemeClusterSegmenterBorrowed.{GraphemeClusterSegmenterBorrowed}
use Rattle.seg_clusters.specs.declared.grapheme.GraphemeClusterBreakIterator.{GraphemeClusterBreakIterator}
use Rattle.seg_clusters.specs.Rules.{rules_of, owned_rules, Rules}
use Rattle.seg_clusters.specs.declared.sentence.SentenceSegmenter.{SentenceSegmenter}
use Rattle.seg_clusters.specs.declared.sentence.SentenceSegmenterBorrowed.{SentenceSegmenterBorrowed}
use Rattle.seg_clusters.specs.declared.sentence.SentenceBreakIterator.{SentenceBreakIterator}

-- what a segmenter finds boundaries by
abbrev pub cluster_rules : GraphemeClusterSegmenterBorrowed → Rules
cluster_rules segmenter = rules_of segmenter.engine

abbrev pub owned_cluster_rules : GraphemeClusterSegmenter → Rules
owned_cluster_rules segmenter = owned_rules segmenter.engine

-- the boundaries that an iterator has still to give, and their places
abbrev pub clusters_left : {I : Type 0} → GraphemeClusterBreakIterator I → List Boundary
clusters_left iterator = iterator.boundaries.left

abbrev pub clusters_places : {I : Type 0} → GraphemeClusterBreakIterator I → List ℕ
clusters_places iterator = offsets (clusters_left iterator)

-- what an iterator finds boundaries by, and the cursor at the start of its text
abbrev pub cluster_finder : {I : Type 0} → GraphemeClusterBreakIterator I → Rules
cluster_finder iterator = rules_of iterator.engine

abbrev pub clusters_source : {I : Type 0} → GraphemeClusterBreakIterator I → I
clusters_source iterator = iterator.whole

-- What is seen of the segmenters of sentences.

-- what a segmenter finds boundaries by
abbrev pub sentence_rules : SentenceSegmenterBorrowed → Rules
sentence_rules segmenter = rules_of segmenter.engine

abbrev pub owned_sentence_rules : SentenceSegmenter → Rules
owned_sentence_rules segmenter = owned_rules segmenter.engine

-- the boundaries that an iterator has still to give, and their places
abbrev pub sentences_left : {I : Type 0} → SentenceBreakIterator I → List Boundary
sentences_left iterator = iterator.boundaries.left

abbrev pub sentences_places : {I : Type 0} → SentenceBreakIterator I → List ℕ
sentences_places iterator = offsets (sentences_left iterator)

-- what an iterator finds boundaries by, and the cursor at the start of its text
abbrev pub sentence_finder : {I : Type 0} → SentenceBreakIterator I → Rules
sentence_finder iterator = rules_of iterator.engine

abbrev pub sentences_source : {I : Type 0} → SentenceBreakIterator I → I
sentences_source iterator = iterator.whole
