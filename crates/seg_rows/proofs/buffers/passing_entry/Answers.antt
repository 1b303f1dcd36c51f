use Rattle.std.proofs.Common.{◌≡◌, true, ap, sym, ◌∙◌}
use Rattle.seg_rows.proofs.Reading.{from-same, next-ascii, next-end, next-failing, next-wide}
use Rattle.seg_rows.proofs.buffers.passing_entry.Goals as goal
use Rattle.seg_rows.proofs.buffers.passing_entry.Goals.{else-may_have_script-via-then-may_have_script+else-not-accepts, else-may_have_script-via-else-may_have_script}

pub returns-in-Some : goal.returns-in-Some
returns-in-Some g c =
    rw c.entries.ensures
    (next-ascii _ _ _ _ c.requires.row.0 _ _ _ c.facts.ensures c.requires.rows.entries c.requires.row.1 c.requires.row.2 c.in-Some.ensures.read.0 c.in-Some.ensures.read.1 c.in-Some.ensures.end
    (c.requires.ascii _ c.in-Some.ensures.read.0))

pub returns-in_default-next_item : goal.returns-in_default-next_item
returns-in_default-next_item g c =
    let none = c.in_default-next_item in
    from-same _ _ _ _ _ _ _ (ap g.I.Cursor.text c.in_default.ensures.read.0)
    (next-end _ _ _ _ _ c.facts.ensures none.ensures.gives.0 none.ensures.gives.1 none.ensures.end)

pub returns-then-not-accepts : goal.returns-then-not-accepts
returns-then-not-accepts g c =
    let item = c.in-Some-next_item in
    from-same _ _ _ _ _ _ _ (ap g.I.Cursor.text c.in_default.ensures.read.0)
    (next-failing _ _ _ _ _ (item.field-0-0, item.code_point) c.facts.ensures item.ensures.gives item.ensures.end (sym c.accepts.ensures ∙ c.if-not-accepts.true))

pub returns : goal.returns
returns g c =
    let item = c.in-Some-next_item in
    let pass : g.T.CodePointTest.passes c.args.test.now item.code_point ≡ true =
    elim c.else-may_have_script.branch [
      | else-may_have_script-via-then-may_have_script+else-not-accepts w ↦ sym w.accepts.ensures ∙ w.if-not-accepts.false
      | else-may_have_script-via-else-may_have_script w ↦ c.requires.plain _ (c.may_have_script.ensures w.if-may_have_script.false _ c.requires.rows)
    ] in
    from-same _ _ _ _ _ _ _ (ap g.I.Cursor.text c.in_default.ensures.read.0)
    (next-wide _ _ _ _ _ _ (item.field-0-0, item.code_point) c.facts.ensures c.wide_entry.ensures item.ensures.gives item.ensures.end pass)
