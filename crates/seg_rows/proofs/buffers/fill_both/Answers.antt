use Rattle.std.proofs.Common.{◌<◌, append-nil, arith, length, min, refl, sym, take, ◌∙◌}
use Rattle.seg_text.specs.declared.boundary.Boundary.{Boundary}
use Rattle.seg_text.specs.Boundaries.{boundary}
use Rattle.seg_text.specs.Items.{start_of}
use Rattle.seg_machine.proofs.Engine.{not_at_end}
use Rattle.seg_rows.proofs.Filling.{appended-bit, appended-more, appended-start, fewer-boundaries, filling-last, filling-read, filling-scan, filling-start, given-full, given-none, full-bit, given-scan, giving-bound, last-bit, later-end}
use Rattle.seg_rows.proofs.Underway.{row-in, status-in}
use Rattle.seg_rows.proofs.buffers.fill_both.Goals as goal

pub returns-then-is_at_end-clause-given : goal.returns-then-is_at_end-clause-given
unfolding given-none
returns-then-is_at_end-clause-given g c = (given-none _ _ _ _ _, sym (append-nil (take c.args.filled.count c.args.marks.now)), refl)

pub loop-rest-init : goal.loop-rest-init
unfolding filling-start
loop-rest-init g c =
    let some = not_at_end _ (sym c.is_at_end.ensures ∙ c.if-is_at_end.false) in
    record {
      filling = rw c.read_first-ahead.ensures.rest (filling-start _ _ _ _ _ _ _ some (c.read_first-ahead.ensures.ahead some) c.requires.last c.requires.count);
      marks = appended-start (λ (b : Boundary). b.status) c.args.filled.count c.args.marks.now;
      some = omega (arith, c.requires.count, c.if-filled-room.false, c.min-room.ensures);
    }

pub returns-then-done-room-clause-given : goal.returns-then-done-room-clause-given
unfolding given-scan
returns-then-done-room-clause-given g c =
    let inv = c.loop-rest.invariant in (
      given-scan _ _ _ _ _ _ _ _ _ _ _ _ c.args.filled.status _ _ inv.filling
          (filling-last _ _ _ _ _ _ _ _ _ _ _ inv.filling c.at_last.ensures.last c.at_last.ensures.none)
          inv.some (omega arith) c.by_scan-next.ensures.segment c.place.ensures,
      (appended-more (λ (b : Boundary). b.status) c.args.filled.count c.args.marks.now inv.filling.given c.loop-rest.done c.loop-rest.marks
          (boundary (start_of (g.I.Cursor.text c.by_scan-next.result.ahead.rest)) c.by_scan-next.result.status) c.by_scan-next.result.status inv.marks
          (omega (arith, inv.some, inv.marks.long)) refl).written,
      later-end c.args.marks.now c.loop-rest.marks c.loop-rest.done 1 c.by_scan-next.result.status inv.marks.later refl,
    )

pub loop-rest-preserved-then-entry : goal.loop-rest-preserved-then-entry
loop-rest-preserved-then-entry g c =
    let inv = c.loop-rest.invariant in
    let inside : c.loop-rest.done < length c.loop-rest.marks = omega (arith, inv.some, inv.marks.long) in
    let some = not_at_end _ (sym c.is_at_end-else-done-room.ensures ∙ c.if-is_at_end-2.false) in
    let read = filling-scan _ _ _ _ _ _ _ _ _ _ _ _ _ _ _ _ inv.filling
    (filling-last _ _ _ _ _ _ _ _ _ _ _ inv.filling c.at_last.ensures.last c.at_last.ensures.none)
    inv.some (omega arith) c.by_scan-next.ensures.segment c.place.ensures some (c.by_scan-next.ensures.ahead some) in
    record {
      filling = read.filling;
      marks =
          appended-bit (λ (b : Boundary). b.status) c.args.filled.count c.args.marks.now inv.filling.given _ c.loop-rest.done c.loop-rest.marks _ _
          1 inv.marks read.more inside refl;
      some = omega (arith, inv.some, c.if-done-room.false, c.min-room.ensures);
    }

pub loop-rest-smaller-then-entry : goal.loop-rest-smaller-then-entry
loop-rest-smaller-then-entry g c =
    fewer-boundaries _ _ _ _ _ c.loop-rest.invariant.some
    (giving-bound _ _ _ _ _ _ _ (loop-rest-preserved-then-entry g c).filling.giving)

pub returns-then-done-room-2-clause-given : goal.returns-then-done-room-2-clause-given
unfolding given-full
returns-then-done-room-2-clause-given g c =
    let inv = c.loop-rest.invariant in
    let inside : c.loop-rest.done < length c.loop-rest.marks = omega (arith, inv.some, inv.marks.long) in
    let read = filling-read _ _ _ _ _ _ _ _ _ _ _ _ _ c.facts.ensures (g.met.I.Cursor.rises c.loop-rest.rest) inv.filling inv.some (omega arith)
    c.next_entry-entry.ensures c.if-entry.false c.place-place.ensures in
    let status = status-in _ _ c.loop-rest.row c.requires.rows.statuses (row-in _ _ _ _ inv.filling.giving.under) in
    let full = c.if-done-room-2.true ∙ c.min-room.ensures in
    rw c.statuses.ensures (
      given-full _ _ _ _ _ _ _ _ _ _ _ c.args.filled.status _ read.filling
          (filling-last _ _ _ _ _ _ _ _ _ _ _ read.filling c.at_last-then-done-room-2.ensures.last c.at_last-then-done-room-2.ensures.none)
          (status ∙ sym (last-bit c.args.filled.status _ _ _ c.loop-rest.done (min (length c.args.places.now) (length c.args.marks.now))
          c.next_entry-entry.result read.more inv.some full))
          (later-end _ _ _ _ _ inv.filling.written.later (full-bit c.loop-rest.done _ c.next_entry-entry.result inv.some full)),
      (appended-bit (λ (b : Boundary). b.status) c.args.filled.count c.args.marks.now inv.filling.given _ c.loop-rest.done c.loop-rest.marks _ _
          c.next_entry-entry.result inv.marks read.more inside status).written,
      later-end _ _ _ _ _ inv.marks.later (full-bit c.loop-rest.done _ c.next_entry-entry.result inv.some full),
    )

pub loop-rest-preserved : goal.loop-rest-preserved
loop-rest-preserved g c =
    let inv = c.loop-rest.invariant in
    let inside : c.loop-rest.done < length c.loop-rest.marks = omega (arith, inv.some, inv.marks.long) in
    let read = filling-read _ _ _ _ _ _ _ _ _ _ _ _ _ c.facts.ensures (g.met.I.Cursor.rises c.loop-rest.rest) inv.filling inv.some (omega arith)
    c.next_entry-entry.ensures c.if-entry.false c.place-place.ensures in
    record {
      filling = read.filling;
      marks =
          appended-bit (λ (b : Boundary). b.status) c.args.filled.count c.args.marks.now inv.filling.given _ c.loop-rest.done c.loop-rest.marks _ _
          c.next_entry-entry.result inv.marks read.more inside
          (rw c.statuses.ensures (status-in _ _ c.loop-rest.row c.requires.rows.statuses (row-in _ _ _ _ inv.filling.giving.under)));
      some = omega (arith, inv.some, c.if-done-room-2.false, c.min-room.ensures);
    }
