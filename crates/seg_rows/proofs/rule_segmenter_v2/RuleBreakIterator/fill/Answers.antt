use Rattle.std.proofs.Common.{ℕ, ap, arith, length, ◌∙◌}
use Rattle.seg_text.specs.declared.boundary.Boundary.{Boundary}
use Rattle.seg_text.specs.Boundaries.{boundary}
use Rattle.seg_text.specs.Items.{start_of}
use Rattle.seg_rows.specs.Given.{first_unless}
use Rattle.seg_rows.proofs.Filling.{done, done-values, first-value}
use Rattle.seg_rows.proofs.rule_segmenter_v2.RuleBreakIterator.fill.Goals as goal

pub returns : goal.returns
returns g c =
    let s = c.self.inside in
    let f = c.fill_places-filled in
    let given = f.ensures.given in
    let begun = c.put_first.ensures.count ∙ ap (λ (place : ℕ). length (first_unless s.started place)) c.place.ensures in
    let d = done _ s.started _ _ s.status _ given.given _ _ _ (length c.args.places.now) c.self.invariant.0 (ap g.I.Cursor.text c.fork.ensures) given.whole begun given.counted given.status_is
    (omega (arith, f.ensures.count, f.ensures.room, c.put_first.ensures.room))
    (λ less. f.ensures.all (omega (arith, less, f.ensures.room, c.put_first.ensures.room))) in
    rw (← c.self.view_is) (record {
      places =
          done-values _ _ _ _ _ _ _ _ _ (λ (b : Boundary). b.offset) _ _ _ d given.written
          (c.put_first.ensures.written ∙ ap (first_unless s.started) c.place.ensures
          ∙ first-value (λ (b : Boundary). b.offset) s.started (boundary (start_of (g.I.Cursor.text s.rest)) 0))
          given.later c.put_first.ensures.later (omega (arith, given.counted));
      left = rw (c.status_within-self-inside.ensures, f.ensures.room, c.put_first.ensures.room) d.left_is;
    })
