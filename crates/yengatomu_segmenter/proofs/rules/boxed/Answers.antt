use Rattle.std.proofs.lemmas.Result.{IfOk-weaker}
use Rattle.seg_notation.specs.Texts.{rules_in}
use Rattle.yengatomu_segmenter.proofs.rules.boxed.Goals as goal

pub returns-clause-made : goal.returns-clause-made
returns-clause-made c = IfOk-weaker c.boxed_by.result _ _ (λ segmenter by. (rules_in c.in_ok-rules.rules, by)) c.boxed_by.ensures.made
