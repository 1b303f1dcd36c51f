use Rattle.std.proofs.Common.{◌≡◌, ◌+◌, ◌<◌, ◌^◌, length}
use Rattle.seg_memo.proofs.memo.count_items.Given as goal

abbrev pub invariant-items : goal.invariant-items
invariant-items g l = (l.items + length (g.I.Cursor.text l.rest).items ≡ length (g.I.Cursor.text l.text).items) × (l.items < 2 ^ 64)

abbrev pub decreases-items : goal.decreases-items
decreases-items g l = length (g.I.Cursor.text l.rest).items
