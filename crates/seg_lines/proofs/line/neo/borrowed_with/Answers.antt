use Rattle.std.proofs.lemmas.Bool.{iff_false}
use Rattle.std.proofs.lemmas.Result.{IfOk-weaker}
use Rattle.seg_lines.proofs.Faults.{with-faultless}
use Rattle.seg_lines.proofs.line.neo.borrowed_with.Goals as goal

pub returns-clause-accepted : goal.returns-clause-accepted
returns-clause-accepted c =
    IfOk-weaker c.try_new.result _ _
    (λ m h. (h.0, with-faultless _ _ (iff_false c.has_complex_below_0100.ensures c.if-has_complex_below_0100.false) h.1)) c.try_new.ensures.accepted
