use Rattle.std.proofs.Common.{rules}
use Rattle.std.proofs.lemmas.Result.{err_from_is_err_and}
use Rattle.seg_hyphens.proofs.Said.{reading-more, reading-fault, reading-all}
use Rattle.seg_hyphens.proofs.reading.Reader.read_all.Goals as goal

pub lines-preserved : goal.lines-preserved
lines-preserved c =
    reading-more _ _ _ _ _ _ _ _ c.lines.invariant (search rules) c.first_line.ensures.first c.first_line.ensures.others _ c.in_ok-read.ensures.ok

pub returns-in_err-read-clause-err : goal.returns-in_err-read-clause-err
returns-in_err-read-clause-err c =
    let p = err_from_is_err_and c.from_residual.result c.from_residual.ensures.1 in
    rw (p.1, p.2) (reading-fault _ _ _ _ _ _ _ _ c.lines.invariant (search rules) c.first_line.ensures.first c.first_line.ensures.others c.in_err-read.field-0.0 c.in_err-read.ensures.err)

pub returns-clause-ok : goal.returns-clause-ok
returns-clause-ok c = reading-all _ _ _ _ _ _ c.lines.invariant (search rules)
