use Rattle.seg_balance.proofs.Table.{begins-here}
use Rattle.seg_balance.proofs.balance.begins_paragraph.Goals as goal

pub returns-else-start-eq0 : goal.returns-else-start-eq0
returns-else-start-eq0 c = begins-here _ _ _ c.if-start-eq0.false c.requires.within
