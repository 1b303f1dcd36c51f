use Rattle.std.proofs.Common.{◌≡◌}
use Rattle.seg_text.specs.Items.{rest_after}
use Rattle.seg_memo.proofs.search.place_after.Given as goal

abbrev pub invariant-loop-item : goal.invariant-loop-item
invariant-loop-item g l = g.I.Cursor.text l.left ≡ rest_after l.item g.whole
