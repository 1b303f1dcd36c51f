use Rattle.seg_pairs.specs.PairData.{pair_table_of, override_of}
use Rattle.seg_pairs.proofs.Pairs.{NoneKeeps}
use Rattle.seg_pairs.proofs.pair_data.PairDataBorrowed.keeps_start.Given as goal

abbrev pub invariant-loop-class : goal.invariant-loop-class
invariant-loop-class l = NoneKeeps (pair_table_of l.self) (override_of l.self) l.class
