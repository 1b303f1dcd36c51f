use Rattle.seg_text.specs.Boundaries.{remainder}
use Rattle.seg_text.proofs.Hints.{hint-lower, hint-upper, stretches-left}
use Rattle.seg_machine.specs.Pick.{machine_stretch}
use Rattle.seg_machine.specs.Tailored.{machine_of}
use Rattle.seg_machine.proofs.Segmentations.{machine-within}
use Rattle.seg_rows.proofs.rule_segmenter_v2.RuleBreakIteratorIterator.size_hint.Goals as goal

pub returns-clause-lower : goal.returns-clause-lower
returns-clause-lower g c =
    let s = c.self.inside in
    let first = machine_stretch (machine_of s.machine) in
    let text = g.I.Cursor.text s.rest in
    let left = stretches-left first (machine-within _ c.facts.ensures) s.started text s.status (g.met.I.Cursor.rises s.rest) in
    rw (← c.self.view_is) (hint-lower (remainder s.started first text s.status) _ (c.size_hint.ensures.lower _ (rw (c.place.ensures, c.end.ensures) left)))

pub returns-clause-upper : goal.returns-clause-upper
returns-clause-upper g c =
    let s = c.self.inside in
    let first = machine_stretch (machine_of s.machine) in
    let text = g.I.Cursor.text s.rest in
    let left = stretches-left first (machine-within _ c.facts.ensures) s.started text s.status (g.met.I.Cursor.rises s.rest) in
    rw (← c.self.view_is) (hint-upper (remainder s.started first text s.status) _ (c.size_hint.ensures.upper _ (rw (c.place.ensures, c.end.ensures) left)))
