use Rattle.std.proofs.Common.{arith, length, sym, ◌∙◌}
use Rattle.std.proofs.lemmas.List.{length-set}
use Rattle.seg_machine.proofs.Engine.{not_at_end}
use Rattle.seg_rows.proofs.Filling.{fewer-boundaries, filling-last, filling-read, filling-scan, filling-start, given-full, full-bit, given-scan, giving-bound, last-bit, later-end, still-room}
use Rattle.seg_rows.proofs.Underway.{row-in, status-in}
use Rattle.seg_rows.proofs.buffers.fill_places.Goals as goal

pub loop-rest-init : goal.loop-rest-init
loop-rest-init g c =
    let some = not_at_end _ (sym c.is_at_end.ensures ∙ c.if-is_at_end.false) in
    record {
      filling = rw c.read_first-ahead.ensures.rest (filling-start _ _ _ _ _ _ _ some (c.read_first-ahead.ensures.ahead some) c.requires.last c.requires.count);
      room = omega (arith, c.requires.count, c.if-filled-places.false);
    }

pub returns-then-count-places-clause-given : goal.returns-then-count-places-clause-given
returns-then-count-places-clause-given g c =
    let inv = c.loop-rest.invariant in
    (given-scan _ _ _ _ _ _ _ _ _ _ _ _ c.args.filled.status _ _ inv.filling
    (filling-last _ _ _ _ _ _ _ _ _ _ _ inv.filling c.at_last.ensures.last c.at_last.ensures.none)
    inv.room (omega arith) c.by_scan-next.ensures.segment c.place.ensures)

pub loop-rest-preserved-then-entry : goal.loop-rest-preserved-then-entry
loop-rest-preserved-then-entry g c =
    let inv = c.loop-rest.invariant in
    let some = not_at_end _ (sym c.is_at_end-else-count-places.ensures ∙ c.if-is_at_end-2.false) in
    record {
      filling =
          (filling-scan _ _ _ _ _ _ _ _ _ _ _ _ _ _ _ _ inv.filling
          (filling-last _ _ _ _ _ _ _ _ _ _ _ inv.filling c.at_last.ensures.last c.at_last.ensures.none)
          inv.room (omega arith) c.by_scan-next.ensures.segment c.place.ensures some (c.by_scan-next.ensures.ahead some)).filling;
      room = still-room _ _ _ _ _ c.loop-rest.auto.places inv.room (omega arith) c.if-count-places.false;
    }

pub loop-rest-smaller-then-entry : goal.loop-rest-smaller-then-entry
loop-rest-smaller-then-entry g c =
    fewer-boundaries _ _ _ _ _ c.loop-rest.invariant.room
    (giving-bound _ _ _ _ _ _ _ (loop-rest-preserved-then-entry g c).filling.giving)

pub returns-then-count-places-2-clause-given : goal.returns-then-count-places-2-clause-given
unfolding given-full
returns-then-count-places-2-clause-given g c =
    let inv = c.loop-rest.invariant in
    let read = filling-read _ _ _ _ _ _ _ _ _ _ _ _ _ c.facts.ensures (g.met.I.Cursor.rises c.loop-rest.rest) inv.filling inv.room (omega arith)
    c.next_entry-entry.ensures c.if-entry.false c.place-place.ensures in
    let full = c.if-count-places-2.true ∙ length-set c.loop-rest.places c.loop-rest.count c.place-place.result ∙ c.loop-rest.auto.places in
    rw c.statuses.ensures
    (given-full _ _ _ _ _ _ _ _ _ _ _ c.args.filled.status _ read.filling
    (filling-last _ _ _ _ _ _ _ _ _ _ _ read.filling c.at_last-then-count-places-2.ensures.last c.at_last-then-count-places-2.ensures.none)
    (status-in _ _ c.loop-rest.row c.requires.rows.statuses (row-in _ _ _ _ inv.filling.giving.under)
    ∙ sym (last-bit c.args.filled.status _ _ _ c.loop-rest.count (length c.args.places.now) c.next_entry-entry.result read.more inv.room full))
    (later-end _ _ _ _ _ inv.filling.written.later (full-bit c.loop-rest.count (length c.args.places.now) c.next_entry-entry.result inv.room full)))

pub loop-rest-preserved : goal.loop-rest-preserved
loop-rest-preserved g c =
    let inv = c.loop-rest.invariant in
    let read = filling-read _ _ _ _ _ _ _ _ _ _ _ _ _ c.facts.ensures (g.met.I.Cursor.rises c.loop-rest.rest) inv.filling inv.room (omega arith)
    c.next_entry-entry.ensures c.if-entry.false c.place-place.ensures in
    record { filling = read.filling; room = still-room _ _ _ _ _ c.loop-rest.auto.places inv.room (omega arith) c.if-count-places-2.false }
