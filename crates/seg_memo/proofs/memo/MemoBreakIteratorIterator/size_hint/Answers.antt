use Rattle.std.proofs.Common.{subst}
use Rattle.seg_text.specs.Boundaries.{remainder, AreLeft}
use Rattle.seg_text.specs.Items.{Text, rest_after, start_of}
use Rattle.seg_text.proofs.Hints.{hint-lower, hint-upper, stretches-left}
use Rattle.seg_machine.specs.Pick.{machine_stretch}
use Rattle.seg_machine.specs.Tailored.{parts_of}
use Rattle.seg_machine.proofs.Segmentations.{machine-within}
use Rattle.seg_memo.specs.Configurations.{reading}
use Rattle.seg_memo.proofs.memo.MemoBreakIteratorIterator.size_hint.Goals as goal

pub returns-clause-lower : goal.returns-clause-lower
returns-clause-lower g c =
    let s = c.self.inside in
    let first = machine_stretch (reading (parts_of s.scanner.machine) (g.R.ReadTransitions.transitions s.scanner.reader)) in
    let text = g.I.Cursor.text s.left.rest in
    let left = subst (λ (rest : Text). AreLeft s.started (start_of text) text.end (remainder s.started first rest s.status).left) c.self.invariant.2.rest
    (stretches-left first (machine-within _ c.self.invariant.2.memo.fit.sound.checked) s.started text s.status (g.met.I.Cursor.rises s.left.rest)) in
    rw (← c.self.view_is)
    (hint-lower (remainder s.started first (rest_after s.left.place (g.I.Cursor.text s.left.text)) s.status) _ (c.size_hint.ensures.lower _ (rw (c.place.ensures, c.end.ensures) left)))

pub returns-clause-upper : goal.returns-clause-upper
returns-clause-upper g c =
    let s = c.self.inside in
    let first = machine_stretch (reading (parts_of s.scanner.machine) (g.R.ReadTransitions.transitions s.scanner.reader)) in
    let text = g.I.Cursor.text s.left.rest in
    let left = subst (λ (rest : Text). AreLeft s.started (start_of text) text.end (remainder s.started first rest s.status).left) c.self.invariant.2.rest
    (stretches-left first (machine-within _ c.self.invariant.2.memo.fit.sound.checked) s.started text s.status (g.met.I.Cursor.rises s.left.rest)) in
    rw (← c.self.view_is)
    (hint-upper (remainder s.started first (rest_after s.left.place (g.I.Cursor.text s.left.text)) s.status) _ (c.size_hint.ensures.upper _ (rw (c.place.ensures, c.end.ensures) left)))
