use Rattle.std.proofs.lemmas.Bool.{iff_false}
use Rattle.seg_pairs.proofs.Pairs.{complex-lowest-of}
use Rattle.seg_pairs.proofs.pair_data.PairDataBorrowed.try_plain.Goals as goal

pub returns-then-has_complex-clause-rejected : goal.returns-then-has_complex-clause-rejected
returns-then-has_complex-clause-rejected c =
    let same = c.in_ok-pairs.ensures.accepted in
    complex-lowest-of _ _ _ _ same.0 same.1 same.2 (iff_false c.keeps_start.ensures c.if-keeps_start.false) (c.has_complex.ensures.0 c.if-has_complex.true)
