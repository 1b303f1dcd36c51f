use Rattle.std.proofs.Common.{◌≡◌, ap, sym, ◌∙◌, arith}
use Rattle.seg_text.specs.Items.{start_of}
use Rattle.seg_rows.proofs.Passing.{passed-some, passing-ends, passing-goes, passing-start}
use Rattle.seg_rows.proofs.Reading.{some-items}
use Rattle.seg_rows.proofs.Underway.{row-in, status-in}
use Rattle.seg_rows.proofs.buffers.fill_passing.Goals as goal
use Rattle.seg_rows.proofs.buffers.fill_passing.Goals.{then-entry-eq1, else-entry-eq1, then-done-gt0, else-done-gt0}

pub items-init : goal.items-init
items-init g c =
    let (item, later, first, pass) = c.begins_passing.ensures c.if-not-begins_passing.false in
    let ahead = rw c.fork.ensures at c.read_first-ahead.ensures.ahead in
    record {
      passing =
          passing-start _ _ _ _ _ _ _ item later (ahead (some-items _ later item first)) first pass (rw c.fork.ensures at c.read_first-ahead.ensures.one);
      within = omega arith;
    }

pub items-preserved : goal.items-preserved
items-preserved g c =
    let inv = c.items.invariant in
    let rows = c.in-Some.ensures.0 in
    elim c.if-entry-eq1.branch [
      | then-entry-eq1 w ↦
          rw (w.places-is, w.marks-is, w.done-is) (record {
            passing =
                passing-ends _ _ _ _ _ _ _ _ _ _ _ _ _ _ c.facts.ensures (g.met.I.Cursor.rises c.args.text.now) inv.passing c.passing_entry-entry.ensures c.if-entry.false
                w.if-entry-eq1.true (omega (arith, c.items-test.true, c.min-room.ensures)) (omega (arith, c.items-test.true, c.min-room.ensures))
                (omega (arith, c.items-test.true, c.min-room.ensures, c.items.auto.places)) c.place-place.ensures
                (rw w.statuses.ensures (status-in _ _ c.items.row rows.statuses (row-in _ _ _ _ inv.passing.under)));
            within = omega (arith, c.items-test.true);
          })
      | else-entry-eq1 w ↦
          rw (w.places-is, w.marks-is, w.done-is) (record {
            passing =
                passing-goes _ _ _ _ _ _ _ _ _ _ _ _ c.facts.ensures inv.passing c.passing_entry-entry.ensures c.if-entry.false (omega (arith, w.if-entry-eq1.false));
            within = inv.within;
          })
    ]

pub returns-clause-some : goal.returns-clause-some
returns-clause-some g c =
    let p = c.items.invariant.passing in
    let (count, few, at) = p.passed in
    let same : g.I.Cursor.text c.if-done-gt0.text ≡ p.last =
    elim c.if-done-gt0.branch [
      | then-done-gt0 w ↦ ap g.I.Cursor.text w.text-is ∙ w.seek.ensures count (p.stands (omega (arith, w.if-done-gt0.true)) ∙ ap start_of at) ∙ sym at
      | else-done-gt0 w ↦ ap g.I.Cursor.text w.text-is ∙ sym (p.none_yet (omega (arith, w.if-done-gt0.false)))
    ] in
    passed-some _ _ _ _ _ _ _ _ _ _ _ p same (omega (arith, c.items.invariant.within, c.min-room.ensures))
