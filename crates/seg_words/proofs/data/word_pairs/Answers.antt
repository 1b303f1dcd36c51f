use Rattle.std.proofs.lemmas.Bool.{iff_false}
use Rattle.std.proofs.lemmas.Result.{err_from_is_err_and}
use Rattle.seg_words.proofs.Faults.{clusters-lowest, complex-lowest, complex-moved, start-moved}
use Rattle.seg_words.proofs.data.word_pairs.Goals as goal

pub returns-in_err-check_clusters-clause-rejected : goal.returns-in_err-check_clusters-clause-rejected
returns-in_err-check_clusters-clause-rejected c =
    let same = c.in_ok-pairs.ensures.accepted in
    let fault = err_from_is_err_and c.from_residual-in_err-check_clusters.result c.from_residual-in_err-check_clusters.ensures.1 in
    rw (fault.1, fault.2) (clusters-lowest _ _ _ same.2 (start-moved _ _ _ _ same.0 same.1 (iff_false c.keeps_start.ensures c.if-keeps_start.false)) _ c.in_err-check_clusters.ensures.rejected)

pub returns-then-has_complex_below_0100-clause-rejected : goal.returns-then-has_complex_below_0100-clause-rejected
returns-then-has_complex_below_0100-clause-rejected c =
    let same = c.in_ok-pairs.ensures.accepted in
    complex-lowest _ _ _ same.2 (start-moved _ _ _ _ same.0 same.1 (iff_false c.keeps_start.ensures c.if-keeps_start.false))
    c.in_ok-check_clusters.ensures.accepted (complex-moved _ _ _ _ same.0 same.1 (c.has_complex_below_0100.ensures.0 c.if-has_complex_below_0100.true))
