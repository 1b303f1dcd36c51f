use Rattle.std.proofs.Common.{sym, ◌∙◌}
use Rattle.seg_rows.proofs.buffers.begins_passing.Goals as goal

pub returns-in-Some : goal.returns-in-Some
returns-in-Some g c = λ yes. (
  (c.in-Some.field-0-0, c.in-Some.code_point),
  (g.I.Cursor.text c.next_item.new.self).items,
  rw c.fork.ensures at c.in-Some.ensures.gives,
  sym c.accepts.ensures ∙ yes,
)
