use Rattle.std.proofs.Common.{length, ◌-◌}
use Rattle.seg_balance.proofs.Core.{IsChosen, IsSeen}
use Rattle.seg_balance.proofs.balance.first_line.Given as goal

abbrev pub invariant-longer : goal.invariant-longer
invariant-longer l =
    IsSeen l.segments l.count l.line.columns l.line.inner_columns l.line.is_hyphenated × IsChosen l.columns l.segments l.costs l.count l.least l.first

abbrev pub decreases-longer : goal.decreases-longer
decreases-longer l = length l.segments - l.count
