use Rattle.seg_balance.proofs.Table.{IsTable}
use Rattle.seg_balance.proofs.balance.first_lines.Given as goal

abbrev pub invariant-starts : goal.invariant-starts
invariant-starts l = IsTable l.limits l.segments l.start l.costs.items l.firsts.items

abbrev pub decreases-starts : goal.decreases-starts
decreases-starts l = l.start
