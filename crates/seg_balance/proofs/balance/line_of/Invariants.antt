use Rattle.std.proofs.Common.{length, ◌-◌}
use Rattle.seg_balance.proofs.Core.{IsLine}
use Rattle.seg_balance.proofs.balance.line_of.Given as goal

abbrev pub invariant-longer : goal.invariant-longer
invariant-longer l = IsLine l.segments l.count l.line.columns l.line.inner_columns l.line.is_hyphenated

abbrev pub decreases-longer : goal.decreases-longer
decreases-longer l = length l.segments - l.count
