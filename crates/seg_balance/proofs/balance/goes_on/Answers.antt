use Rattle.std.proofs.Common.{rules}
use Rattle.seg_balance.proofs.Core.{goes-on-by}
use Rattle.seg_balance.proofs.balance.goes_on.Goals as goal

pub returns-then-width-columns : goal.returns-then-width-columns
returns-then-width-columns c = goes-on-by _ _ _ _ _ c.requires.some c.requires.within (search rules) (search rules)
