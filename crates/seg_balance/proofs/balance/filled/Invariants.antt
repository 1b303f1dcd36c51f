use Rattle.std.proofs.Common.{length, ◌-◌}
use Rattle.seg_balance.proofs.Table.{IsFilledTo}
use Rattle.seg_balance.proofs.balance.filled.Given as goal

abbrev pub invariant-lines : goal.invariant-lines
invariant-lines l = IsFilledTo l.limits l.segments l.start l.lines.items

abbrev pub decreases-lines : goal.decreases-lines
decreases-lines l = length l.segments - l.start
