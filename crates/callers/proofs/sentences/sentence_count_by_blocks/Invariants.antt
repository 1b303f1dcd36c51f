-- The count so far and the sentences that are left make up all of them, modulo 2^64.
use Rattle.std.proofs.Common.{◌≡◌, ◌+◌, ◌%◌, ◌^◌, length}
use Rattle.icu_segmenter.specs.Clusters.{sentence_rules}
use Rattle.callers.proofs.Blocks.{segment_count}
use Rattle.callers.proofs.sentences.sentence_count_by_blocks.Given as goal

abbrev pub invariant-loop-rest : goal.invariant-loop-rest
invariant-loop-rest l = (l.count + segment_count (sentence_rules l.fn.segmenter) l.rest) % 2 ^ 64 ≡ segment_count (sentence_rules l.fn.segmenter) l.text % 2 ^ 64

abbrev pub decreases-loop-rest : goal.decreases-loop-rest
decreases-loop-rest l = length l.rest
