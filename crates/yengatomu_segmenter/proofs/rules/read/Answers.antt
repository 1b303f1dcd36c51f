use Rattle.std.proofs.Common.{ℕ, List, subst}
use Rattle.seg_notation.specs.Lines.{IsLineOf}
use Rattle.yengatomu_segmenter.proofs.rules.read.Goals as goal

pub returns-in-Err : goal.returns-in-Err
returns-in-Err c =
    c.wrong.ensures c.args.text.now (subst (λ (bytes : List ℕ). IsLineOf bytes c.in-Err.error.line) c.in-Ok.ensures.cases.0 c.in-Err.ensures.line)
