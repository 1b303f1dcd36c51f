use Rattle.std.proofs.Common.{◌∙◌, ap, sym, refl}
use Rattle.seg_text.specs.Boundaries.{offsets}
use Rattle.seg_machine.specs.Tailored.{parts_of}
use Rattle.seg_machine.proofs.Engine.{not_at_end}
use Rattle.seg_memo.specs.Configurations.{reading}
use Rattle.seg_memo.proofs.Memoised.{end-none, memo-next}
use Rattle.seg_memo.proofs.memo.MemoBreakIterator.next_boundary.Goals as goal

pub returns-then-is_at_end-clause-steps : goal.returns-then-is_at_end-clause-steps
returns-then-is_at_end-clause-steps g c =
    let none = end-none _ (g.I.Cursor.text c.self.inside.left.text) _ c.self.inside.left.place _ c.self.inside.status c.if-not-self.false c.self.invariant.2.rest (sym c.is_at_end.ensures ∙ c.if-is_at_end.true) in
    rw (← c.self.view_is) ((ap offsets none, ap offsets none), (none, none, refl))

pub returns : goal.returns
returns g c =
    let k = memo-next (reading (parts_of c.self.inside.scanner.machine) (g.R.ReadTransitions.transitions c.self.inside.scanner.reader)) _ (g.I.Cursor.text c.self.inside.left.text) (g.I.Cursor.text c.next_segment-found.new.left.text)
    (g.I.Cursor.text c.self.inside.left.rest) (g.I.Cursor.text c.next_segment-found.new.left.rest) c.self.inside.left.place c.next_segment-found.new.left.place (g.R.ReadTransitions.counted c.self.inside.scanner.reader) (g.R.ReadTransitions.counted c.next_segment-found.new.self.reader) _ _ c.self.inside.status
    c.next_segment-found.result (sym c.next_segment-found.ensures.read.machine) (ap (g.I.Cursor.text) c.next_segment-found.ensures.text) c.next_segment-found.ensures.place c.if-not-self.false c.self.invariant.2.rest (not_at_end _ (sym c.is_at_end.ensures ∙ c.if-is_at_end.false))
    c.next_segment-found.ensures.segment c.next_segment-found.ensures.ready.rest c.place-2.ensures in
    rw (← c.self.view_is) (record { steps = k.steps; goes = k.goes; same = (sym c.next_segment-found.ensures.read.machine, ap (g.I.Cursor.text) c.next_segment-found.ensures.text) })
