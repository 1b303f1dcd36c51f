use Rattle.std.proofs.Common.{length, ◌-◌}
use Rattle.seg_balance.proofs.Core.{IsFull, IsSeen}
use Rattle.seg_balance.proofs.balance.full_line.Given as goal

abbrev pub invariant-longer : goal.invariant-longer
invariant-longer l =
    IsSeen l.segments l.count l.line.columns l.line.inner_columns l.line.is_hyphenated × IsFull l.columns l.segments l.count l.full.0 l.full.1

abbrev pub decreases-longer : goal.decreases-longer
decreases-longer l = length l.segments - l.count
