use Rattle.std.proofs.Common.{drop, arith}
use Rattle.std.proofs.lemmas.List.{length-drop}
use Rattle.seg_text.proofs.Hints.{utf8-few, utf8-some}
use Rattle.seg_text.proofs.indices.str.StrCharIndicesIterator.size_hint.Goals as goal

pub returns-clause-lower : goal.returns-clause-lower
returns-clause-lower c bounded =
    let s = c.self.inside in
    rw (← c.self.view_is)
    (omega (arith, c.min.ensures, length-drop s.front_offset s.text.now, utf8-some s.front_offset (drop s.front_offset s.text.now)))

pub returns-clause-upper : goal.returns-clause-upper
returns-clause-upper c =
    let s = c.self.inside in
    rw (← c.self.view_is)
    (tt, omega (arith, length-drop s.front_offset s.text.now, utf8-few s.front_offset (drop s.front_offset s.text.now)))
