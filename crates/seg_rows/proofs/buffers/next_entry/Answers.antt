use Rattle.std.proofs.Common.{ap, refl}
use Rattle.seg_rows.proofs.Reading.{from-same, next-ascii, next-end, next-wide}
use Rattle.seg_rows.proofs.buffers.next_entry.Goals as goal

pub returns-in-Some : goal.returns-in-Some
returns-in-Some g c =
    rw c.entries.ensures
    (next-ascii _ _ _ _ c.requires.row.0 _ _ _ c.facts.ensures c.requires.rows.entries c.requires.row.1 c.requires.row.2 c.in-Some.ensures.read.0 c.in-Some.ensures.read.1 c.in-Some.ensures.end refl)

pub returns-in-Some-next_item : goal.returns-in-Some-next_item
returns-in-Some-next_item g c =
    let item = c.in-Some-next_item in
    from-same _ _ _ _ _ _ _ (ap g.I.Cursor.text c.in_default.ensures.read.0)
    (next-wide _ _ _ _ _ _ (item.field-0-0, item.code_point) c.facts.ensures c.wide_entry.ensures item.ensures.gives item.ensures.end refl)

pub returns-in-None : goal.returns-in-None
returns-in-None g c =
    from-same _ _ _ _ _ _ _ (ap g.I.Cursor.text c.in_default.ensures.read.0)
    (next-end _ _ _ _ _ c.facts.ensures c.in-None.ensures.gives.0 c.in-None.ensures.gives.1 c.in-None.ensures.end)
