use Rattle.std.proofs.lemmas.List.{take_rest}
use Rattle.seg_text.proofs.Cursors.{goes-on, stays, fewer-left}
use Rattle.seg_text.proofs.Encodings.{next-character, nothing-left, taken-within}
use Rattle.seg_text.proofs.indices.units.IndicesIterator.next.Goals as goal

pub returns-in-Some-clause-steps : goal.returns-in-Some-clause-steps
returns-in-Some-clause-steps g c =
    let reads = rw (c.in-Some.is, take_rest) at c.read_single.ensures in
    rw (← c.self.view_is) (
      next-character g.met.E.ReadsUnits.is_encoding _ _ _ c.if-place-self.true reads,
      goes-on _ _ _ (taken-within g.met.E.ReadsUnits.is_encoding _ _ _ c.if-place-self.true reads),
    )

pub returns-in-Some-clause-goes : goal.returns-in-Some-clause-goes
returns-in-Some-clause-goes g c = fewer-left _ _ _ _ (returns-in-Some-clause-steps g c).0

pub returns-in_default-clause-steps : goal.returns-in_default-clause-steps
returns-in_default-clause-steps g c =
    let reads = rw take_rest at c.read_first-taken.ensures in
    rw (← c.self.view_is) (
      next-character g.met.E.ReadsUnits.is_encoding _ _ _ c.if-place-self.true reads,
      goes-on _ _ _ (taken-within g.met.E.ReadsUnits.is_encoding _ _ _ c.if-place-self.true reads),
    )

pub returns-in_default-clause-goes : goal.returns-in_default-clause-goes
returns-in_default-clause-goes g c = fewer-left _ _ _ _ (returns-in_default-clause-steps g c).0

pub returns-else-place-self-clause-steps : goal.returns-else-place-self-clause-steps
returns-else-place-self-clause-steps g c =
    rw (← c.self.view_is)
    (let none = nothing-left g.met.E.ReadsUnits.is_encoding c.self.inside.front_offset c.self.inside.units.now c.if-place-self.false in (none, none), stays _)
