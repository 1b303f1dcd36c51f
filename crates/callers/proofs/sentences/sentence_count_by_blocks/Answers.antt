use Rattle.std.proofs.Common.{◌∙◌, sym, arith, eqb-true}
use Rattle.std.proofs.lemmas.List.{nil_from_length}
use Rattle.icu_segmenter.specs.Clusters.{sentence_rules}
use Rattle.callers.proofs.Blocks.{all-counted, one-more, rest-count}
use Rattle.callers.proofs.sentences.sentence_count_by_blocks.Goals as goal

pub loop-rest-preserved : goal.loop-rest-preserved
loop-rest-preserved c =
    one-more c.loop-rest.count c.sentence_count-count.result _ _ _
    (rest-count (sentence_rules c.args.segmenter) (c.parts_behind_resets.ensures (c.resets_after.ensures.0 c.if-not-resets_after.false)) c.loop-rest.rest.now
    c.split_at.result.0.now c.split_at.result.1.now c.block_length.result c.sentence_count-count.result c.block_length.ensures c.split_at.ensures.front c.split_at.ensures.back
    c.sentence_count-count.ensures)
    c.loop-rest.invariant

pub returns : goal.returns
returns c =
    all-counted (sentence_rules c.args.segmenter) c.loop-rest.rest.now c.loop-rest.count _ (omega (arith, c.loop-rest.auto.count-fits))
    (nil_from_length c.loop-rest.rest.now (eqb-true _ _ (sym c.is_empty.ensures ∙ c.loop-rest-test.false)))
    c.loop-rest.invariant
