use Rattle.std.proofs.Common.{length}
use Rattle.seg_compile.proofs.patterns.+flow.Given as goal

abbrev pub decreases-flow : goal.decreases-flow
decreases-flow l = length l.pattern.now
