-- The first of those that are held, or where none are, of those that were found.
use Rattle.std.proofs.Common.{arith, ◌∙◌}
use Rattle.seg_text.proofs.Cursors.{fewer-left}
use Rattle.seg_segments.proofs.Held.{none-held, one-given, refilled}
use Rattle.seg_segments.proofs.segments.held.HeldIterator.next.Goals as goal
use Rattle.seg_segments.proofs.segments.held.HeldIterator.next.Goals.{then-self+else-self-eq0, else-self}

pub returns-clause-steps : goal.returns-clause-steps
returns-clause-steps g c =
    elim c.if-self.branch [
      | then-self+else-self-eq0 w ↦
          let f = w.fill_both-self-inside in
          rw (← c.self.view_is, w.self-inside-is)
          (none-held c.self.inside.next c.self.inside.end c.self.inside.places c.self.inside.statuses _ w.if-self.true
          ∙ refilled _ _ _ _ _ _ _ _ f.ensures.places f.ensures.marks f.ensures.left
          ∙ one-given 0 f.result f.new.places f.new.statuses _ (omega (arith, w.if-self-eq0.false))
          (omega (arith, f.ensures.places.few, f.auto.places, c.self.told)) (omega (arith, f.ensures.places.few, f.auto.statuses, c.self.told)))
      | else-self w ↦
          rw (← c.self.view_is, w.self-inside-is)
          (one-given c.self.inside.next c.self.inside.end c.self.inside.places c.self.inside.statuses _ (omega (arith, c.self.invariant.0, w.if-self.false))
          (omega (arith, c.self.invariant.1, c.self.told)) (omega (arith, c.self.invariant.1, c.self.told)))
    ]

pub returns-clause-goes : goal.returns-clause-goes
returns-clause-goes g c = fewer-left (λ s. s) _ _ _ (returns-clause-steps g c)
