use Rattle.std.proofs.Common.{◌≡◌, drop}
use Rattle.worked_rows.proofs.items.place_after.Given as goal

abbrev pub invariant-loop-i : goal.invariant-loop-i
invariant-loop-i g l = record {
  left : (g.I.Cursor.text l.rest).items ≡ drop l._i (g.I.Cursor.text l.text).items;
  same_end : (g.I.Cursor.text l.rest).end ≡ (g.I.Cursor.text l.text).end;
}
