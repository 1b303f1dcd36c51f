use Rattle.std.proofs.Common.{◌∙◌, ap, sym, refl}
use Rattle.seg_text.specs.Boundaries.{offsets}
use Rattle.seg_machine.proofs.Engine.{gives-start, gives-next, end-left, not_at_end}
use Rattle.seg_rows.proofs.rule_segmenter_v2.RuleBreakIteratorIterator.next.Goals as goal

pub returns-then-not-self-clause-steps : goal.returns-then-not-self-clause-steps
returns-then-not-self-clause-steps g c =
    rw (← c.self.view_is) ((gives-start _ _ _ c.self.inside.status _ c.if-not-self.true (c.self.invariant.0 c.if-not-self.true) c.place.ensures).steps)

pub returns-then-not-self-clause-goes : goal.returns-then-not-self-clause-goes
returns-then-not-self-clause-goes g c =
    rw (← c.self.view_is) ((gives-start _ _ _ c.self.inside.status _ c.if-not-self.true (c.self.invariant.0 c.if-not-self.true) c.place.ensures).goes)

pub returns-then-is_at_end-clause-steps : goal.returns-then-is_at_end-clause-steps
returns-then-is_at_end-clause-steps g c =
    let none = end-left _ _ _ c.self.inside.status c.if-not-self.false (sym c.is_at_end.ensures ∙ c.if-is_at_end.true) in
    rw (← c.self.view_is) ((ap offsets none, ap offsets none), (none, none, refl))

pub returns-clause-steps : goal.returns-clause-steps
returns-clause-steps g c =
    rw (← c.self.view_is)
    ((gives-next _ _ _ _ c.self.inside.status _ _ c.if-not-self.false (not_at_end _ (sym c.is_at_end.ensures ∙ c.if-is_at_end.false))
    c.next_segment-self-inside.ensures.segment c.place-2.ensures).steps)

pub returns-clause-goes : goal.returns-clause-goes
returns-clause-goes g c =
    rw (← c.self.view_is)
    ((gives-next _ _ _ _ c.self.inside.status _ _ c.if-not-self.false (not_at_end _ (sym c.is_at_end.ensures ∙ c.if-is_at_end.false))
    c.next_segment-self-inside.ensures.segment c.place-2.ensures).goes)
