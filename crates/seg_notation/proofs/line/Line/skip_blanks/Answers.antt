use Rattle.std.proofs.Common.{sym, ◌∙◌, ap}
use Rattle.seg_notation.specs.Scanning.{past_blanks}
use Rattle.seg_notation.proofs.Scanning.{past-one, past-none}
use Rattle.seg_notation.proofs.line.Line.skip_blanks.Goals as goal

pub loop-self-preserved : goal.loop-self-preserved
loop-self-preserved c =
    ap past_blanks c.read.ensures ∙ past-one _ (sym c.is_before_blank.ensures ∙ c.loop-self-test.true) ∙ c.loop-self.invariant

pub returns : goal.returns
returns c = sym (past-none _ (sym c.is_before_blank.ensures ∙ c.loop-self-test.false)) ∙ c.loop-self.invariant
