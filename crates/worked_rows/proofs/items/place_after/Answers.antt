use Rattle.std.proofs.Common.{◌≡◌, ℕ, ◌+◌, List, drop, refl}
use Rattle.std.proofs.lemmas.List.{drop-drop}
use Rattle.std.specs.Prelude.{Option, Some, None}
use Rattle.std.specs.Iterator.{YieldsFirst}
use Rattle.seg_text.specs.Items.{Item}
use Rattle.worked_rows.proofs.items.place_after.Goals as goal

-- one more item is read
more : {S : Type 0} (left : S → List Item) (items : List Item) (k : ℕ) (old new : S) (read : Option Item)
    → left old ≡ drop k items → YieldsFirst left old read new → left new ≡ drop (k + 1) items
more left items k old new None at gives = rw (← drop-drop 1 k items, ← at, gives.0) gives.1
more left items k old new (Some item) at gives = rw (← drop-drop 1 k items, ← at, gives) refl

pub loop-i-preserved : goal.loop-i-preserved
loop-i-preserved g c = record {
  left = more (λ s. (g.I.Cursor.text s).items) (g.I.Cursor.text c.args.text.now).items c.loop-i._i _ _ _ c.loop-i.invariant.left c.next_item-item.ensures.gives;
  same_end = rw c.next_item-item.ensures.end c.loop-i.invariant.same_end;
}
