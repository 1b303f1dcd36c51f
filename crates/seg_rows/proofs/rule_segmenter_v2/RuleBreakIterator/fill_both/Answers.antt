use Rattle.std.proofs.Common.{ℕ, ap, arith, length, min, sym, take, ◌∙◌}
use Rattle.seg_text.specs.declared.boundary.Boundary.{Boundary}
use Rattle.seg_text.specs.Boundaries.{boundary}
use Rattle.seg_text.specs.Items.{start_of}
use Rattle.seg_rows.specs.Given.{first_unless}
use Rattle.seg_rows.proofs.Filling.{done, done-values, first-long, first-value}
use Rattle.seg_rows.proofs.rule_segmenter_v2.RuleBreakIterator.fill_both.Goals as goal

pub returns : goal.returns
returns g c =
    let s = c.self.inside in
    let f = c.fill_both-filled in
    let given = f.ensures.given.0 in
    let begun = c.put_first-2.ensures.count ∙ ap (λ (place : ℕ). length (first_unless s.started place)) c.place.ensures in
    let d = done _ s.started _ _ s.status _ given.given _ _ _ (min (length c.args.places.now) (length c.args.statuses.now)) c.self.invariant.0 (ap g.I.Cursor.text c.fork.ensures) given.whole begun given.counted given.status_is
    (omega (arith, f.ensures.count, f.ensures.room.0, f.ensures.room.1, c.put_first.ensures.room, c.put_first-2.ensures.room))
    (λ less. f.ensures.all (omega (arith, less, f.ensures.room.0, f.ensures.room.1, c.put_first.ensures.room, c.put_first-2.ensures.room))) in
    let same = c.put_first-2.ensures.count ∙ first-long s.started c.place.result 0 ∙ sym c.put_first.ensures.count in
    rw (← c.self.view_is) (record {
      places =
          done-values _ _ _ _ _ _ _ _ _ (λ (b : Boundary). b.offset) _ _ _ d given.written
          (c.put_first-2.ensures.written ∙ ap (first_unless s.started) c.place.ensures
          ∙ first-value (λ (b : Boundary). b.offset) s.started (boundary (start_of (g.I.Cursor.text s.rest)) 0))
          given.later c.put_first-2.ensures.later (omega (arith, given.counted));
      statuses_are =
          done-values _ _ _ _ _ _ _ _ _ (λ (b : Boundary). b.status) _ _ _ d f.ensures.given.1
          (ap (λ (n : ℕ). take n c.put_first.new.into) same ∙ c.put_first.ensures.written
          ∙ first-value (λ (b : Boundary). b.status) s.started (boundary (start_of (g.I.Cursor.text s.rest)) 0))
          f.ensures.given.2
          (rw same c.put_first.ensures.later) (omega (arith, given.counted));
      left = rw (c.status_within-self-inside.ensures, c.min.ensures, f.ensures.room.0, f.ensures.room.1, c.put_first.ensures.room, c.put_first-2.ensures.room) d.left_is;
    })
