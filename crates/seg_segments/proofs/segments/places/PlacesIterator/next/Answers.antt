use Rattle.std.proofs.Common.{arith, ◌∙◌}
use Rattle.seg_text.proofs.Cursors.{fewer-left}
use Rattle.seg_segments.proofs.Held.{no-place-held, place-given, places-refilled}
use Rattle.seg_segments.proofs.segments.places.PlacesIterator.next.Goals as goal
use Rattle.seg_segments.proofs.segments.places.PlacesIterator.next.Goals.{then-self+else-self-eq0, else-self}

pub returns-clause-steps : goal.returns-clause-steps
returns-clause-steps g c =
    elim c.if-self.branch [
      | then-self+else-self-eq0 w ↦
          let f = w.fill-self-inside in
          rw (← c.self.view_is, w.self-inside-is)
          (no-place-held c.self.inside.next c.self.inside.end c.self.inside.held _ w.if-self.true
          ∙ places-refilled g.B.BreakIterator.mark _ _ _ _ _ f.ensures.filled f.ensures.left
          ∙ place-given 0 f.result f.new.places _ (omega (arith, w.if-self-eq0.false)) (omega (arith, f.ensures.filled.few, f.auto.places, c.self.told)))
      | else-self w ↦
          rw (← c.self.view_is, w.self-inside-is)
          (place-given c.self.inside.next c.self.inside.end c.self.inside.held _ (omega (arith, c.self.invariant.0, w.if-self.false)) (omega (arith, c.self.invariant.1, c.self.told)))
    ]

pub returns-clause-goes : goal.returns-clause-goes
returns-clause-goes g c = fewer-left (λ s. s) _ _ _ (returns-clause-steps g c)
