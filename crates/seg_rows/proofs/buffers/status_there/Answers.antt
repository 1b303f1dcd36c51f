use Rattle.std.proofs.Common.{length, ap, sym, ◌∙◌}
use Rattle.seg_text.specs.Items.{start_of}
use Rattle.seg_rows.proofs.Reading.{ends-if, nothing-there}
use Rattle.seg_rows.proofs.buffers.status_there.Goals as goal

pub seek-requires : goal.seek-requires
seek-requires g c =
    let (left, under, stands) = c.requires in
    rw c.fork-there.ensures (length under.scanned.entered, stands ∙ ap start_of under.scanned.rest)

pub returns-then-is_at_end : goal.returns-then-is_at_end
returns-then-is_at_end g c =
    let none = nothing-there _ _ (g.I.Cursor.text c.seek.new.self) _ _ c.requires (rw c.fork-there.ensures at c.seek.ensures) (sym c.is_at_end.ensures ∙ c.if-is_at_end.true) in
    ends-if _ _ c.args.row _ _ c.facts.ensures (g.met.I.Cursor.rises c.args.text.now) c.requires none c.status_at_end.ensures
