use Rattle.std.proofs.Common.{◌≤◌, suc, length}
use Rattle.seg_text.proofs.Hints.{few-later, few-all, most-all}
use Rattle.seg_text.proofs.reach.Reach.size_hint.Goals as goal

pub returns-then-self-clause-upper : goal.returns-then-self-clause-upper
returns-then-self-clause-upper c left ahead = rw c.saturating_sub-units.ensures (few-later _ _ _ left c.if-self.true ahead)

pub returns-else-self-clause-upper : goal.returns-else-self-clause-upper
returns-else-self-clause-upper c left ahead =
    let few : length left ≤ suc c.saturating_sub-units.result = rw c.saturating_sub-units.ensures (few-all _ _ _ left c.if-self.false ahead) in
    most-all c.checked_add.result _ _ (length left) few c.checked_add.ensures
