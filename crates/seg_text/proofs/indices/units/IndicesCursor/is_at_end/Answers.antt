use Rattle.seg_text.proofs.Encodings.{at-end}
use Rattle.seg_text.proofs.indices.units.IndicesCursor.is_at_end.Goals as goal

pub returns : goal.returns
returns g c = rw (← c.self.view_is) (at-end g.met.E.ReadsUnits.is_encoding _ _ c.self.invariant)
