use Rattle.std.proofs.Common.{length}
use Rattle.seg_rules.proofs.flow.+is_full.Given as goal

abbrev pub decreases-is_full : goal.decreases-is_full
decreases-is_full l = length l.pattern.now
