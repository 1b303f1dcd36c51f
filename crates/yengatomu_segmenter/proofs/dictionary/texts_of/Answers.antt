use Rattle.std.proofs.Common.{refl, inr, sym, arith}
use Rattle.std.proofs.lemmas.List.{take_all}
use Rattle.yengatomu_segmenter.proofs.ReadWords.{one-text, one-utf8}
use Rattle.yengatomu_segmenter.proofs.dictionary.texts_of.Goals as goal

pub returns-in_default-clause-rejected : goal.returns-in_default-clause-rejected
returns-in_default-clause-rejected c = inr (refl, λ utf8. c.in_default.ensures.cases.0 (utf8 c.loop-index.index _ c.loop-index-test.true))

pub loop-index-preserved : goal.loop-index-preserved
loop-index-preserved c = record {
  texts = rw c.in-Ok-push.ensures.items (one-text _ _ _ _ _ c.loop-index-test.true c.in-Ok.ensures.cases.0 c.loop-index.invariant.texts);
  utf8 = one-utf8 _ _ _ c.loop-index-test.true c.in-Ok.ensures.cases.1 c.loop-index.invariant.utf8;
}

pub returns-clause-texts : goal.returns-clause-texts
returns-clause-texts c =
    let all = take_all c.loop-index.index c.args.words.now (omega (arith, c.loop-index-test.false)) in
    rw (sym all) (c.loop-index.invariant.texts, c.loop-index.invariant.utf8)
