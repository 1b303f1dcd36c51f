use Rattle.std.proofs.Common.{arith}
use Rattle.std.proofs.lemmas.Bool.{false≢true}
use Rattle.seg_pairs.proofs.Pairs.{none-keeps}
use Rattle.seg_pairs.proofs.pair_data.PairDataBorrowed.keeps_start.Goals as goal

pub returns : goal.returns
returns c = (
  λ e. absurd (false≢true e),
  λ keeps. absurd (none-keeps _ _ _ c.facts.ensures c.args.self.fits c.loop-class.invariant (omega (arith, c.loop-class-test.false, c.property_count-class-end.ensures)) keeps),
)
