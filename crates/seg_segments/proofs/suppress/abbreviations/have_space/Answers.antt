use Rattle.std.proofs.Common.{arith}
use Rattle.seg_segments.specs.InLines.{IsSpaceless}
use Rattle.seg_segments.proofs.EachWord.{each-more, each-taken}
use Rattle.seg_segments.proofs.suppress.abbreviations.have_space.Goals as goal

pub loop-word-preserved : goal.loop-word-preserved
loop-word-preserved c =
    each-more IsSpaceless c.args.words.now c.loop-word.word-index _ c.loop-word-test.true c.loop-word.invariant (c.has_space.ensures c.if-has_space.false)

pub returns : goal.returns
returns c is =
    each-taken IsSpaceless c.args.words.now c.loop-word.word-index (omega (arith, c.loop-word-test.false, c.loop-word.auto.word-index-end)) c.loop-word.invariant
