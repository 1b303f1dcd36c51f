use Rattle.std.proofs.Common.{drop, arith}
use Rattle.std.proofs.lemmas.List.{length-drop}
use Rattle.seg_text.proofs.Hints.{characters-few, characters-some}
use Rattle.seg_text.proofs.indices.units.IndicesIterator.size_hint.Goals as goal

pub returns-clause-lower : goal.returns-clause-lower
returns-clause-lower g c bounded =
    let s = c.self.inside in
    rw (← c.self.view_is)
    (omega (arith, c.min.ensures, length-drop s.front_offset s.units.now, characters-some g.met.E.ReadsUnits.is_encoding s.front_offset (drop s.front_offset s.units.now)))

pub returns-clause-upper : goal.returns-clause-upper
returns-clause-upper g c =
    let s = c.self.inside in
    rw (← c.self.view_is)
    (tt, omega (arith, length-drop s.front_offset s.units.now, characters-few g.met.E.ReadsUnits.is_encoding s.front_offset (drop s.front_offset s.units.now)))
