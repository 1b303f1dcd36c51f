use Rattle.seg_text.proofs.Encodings.{seek-within, seek-text}
use Rattle.seg_text.proofs.indices.units.IndicesCursor.seek.Goals as goal

pub invariant_of-self : goal.invariant_of-self
invariant_of-self g c =
    seek-within g.met.E.ReadsUnits.is_encoding c.requires.0 _ c.self.inside.front_offset _ c.self.invariant (rw (← c.self.view_is) at c.requires.1)

pub returns : goal.returns
returns g c k here =
    rw (← c.self.view_is)
    (seek-text g.met.E.ReadsUnits.is_encoding k _ c.self.inside.front_offset c.self.inside.units.now c.self.invariant (rw (← c.self.view_is) at here))
