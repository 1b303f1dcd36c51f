use Rattle.std.proofs.Common.{sym}
use Rattle.std.proofs.lemmas.List.{length-take-le}
use Rattle.seg_text.proofs.Encodings.{up_to-found}
use Rattle.seg_text.proofs.indices.units.IndicesCursor.up_to.Goals as goal

pub slice_bounds-result-end : goal.slice_bounds-result-end
slice_bounds-result-end g c =
    let here = rw (← c.self.view_is) at c.requires.1 in
    sym (length-take-le _ _ (up_to-found g.met.E.ReadsUnits.is_encoding c.requires.0 _ c.self.inside.front_offset c.self.inside.units.now c.self.invariant here).0)

pub invariant_of-result : goal.invariant_of-result
invariant_of-result g c =
    let here = rw (← c.self.view_is) at c.requires.1 in
    (up_to-found g.met.E.ReadsUnits.is_encoding c.requires.0 _ c.self.inside.front_offset c.self.inside.units.now c.self.invariant here).1

pub returns : goal.returns
returns g c k ends =
    rw (← c.self.view_is)
    (up_to-found g.met.E.ReadsUnits.is_encoding k _ c.self.inside.front_offset c.self.inside.units.now c.self.invariant (rw (← c.self.view_is) at ends)).2
