use Rattle.std.proofs.Common.{length, ◌-◌}
use Rattle.seg_balance.proofs.Table.{IsCut}
use Rattle.seg_balance.proofs.balance.balanced.Given as goal

abbrev pub invariant-lines : goal.invariant-lines
invariant-lines l = IsCut l.fn.limits l.segments l.start l.lines.items

abbrev pub decreases-lines : goal.decreases-lines
decreases-lines l = length l.segments - l.start
