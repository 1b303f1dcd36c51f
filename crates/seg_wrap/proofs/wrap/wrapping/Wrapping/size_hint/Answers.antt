use Rattle.seg_lines.specs.Lines.{lines_left}
use Rattle.seg_wrap.specs.Walk.{measure_of}
use Rattle.seg_wrap.proofs.Hints.{held-few, held-some, held-within}
use Rattle.seg_wrap.proofs.wrap.wrapping.Wrapping.size_hint.Goals as goal

pub overflow_sub-result : goal.overflow_sub-result
overflow_sub-result g c =
    rw c.end.ensures (held-within (measure_of c.self.inside.setting.measuring) _ _ _ _ (g.met.I.Cursor.rises c.self.inside.rest) c.self.invariant.0 c.in-Some.is)

pub returns-in-Some-clause-lower : goal.returns-in-Some-clause-lower
returns-in-Some-clause-lower g c =
    let s = c.self.inside in
    rw (← c.self.view_is) (held-some (measure_of s.setting.measuring) s.setting.room s.setting.is_first (g.I.Cursor.text s.rest) _ _ (lines_left s.breaks) c.in-Some.is)

pub returns-in-Some-clause-upper : goal.returns-in-Some-clause-upper
returns-in-Some-clause-upper g c =
    let s = c.self.inside in
    rw (← c.self.view_is, c.end.ensures) (held-few (measure_of s.setting.measuring) s.setting.room s.setting.is_first _ _ _ _ (g.met.I.Cursor.rises s.rest) c.self.invariant.0 c.in-Some.is)
