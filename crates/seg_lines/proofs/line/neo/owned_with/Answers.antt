use Rattle.std.proofs.lemmas.Bool.{iff_false}
use Rattle.std.proofs.lemmas.Result.{IfErr-weaker}
use Rattle.seg_lines.proofs.Faults.{borrowed-alike, with-lowest}
use Rattle.seg_lines.proofs.line.neo.owned_with.Goals as goal

pub returns-clause-rejected : goal.returns-clause-rejected
returns-clause-rejected c =
    IfErr-weaker c.try_new.result _ _
    (λ fault h. with-lowest _ _ fault (λ has. iff_false c.has_complex_below_0100.ensures c.if-has_complex_below_0100.false (borrowed-alike _ _ _ c.as_ref.ensures.value has)) h) c.try_new.ensures.rejected
