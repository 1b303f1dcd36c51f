use Rattle.seg_line_pairs.proofs.read_ahead.ReadAhead.nothing.Goals as goal

pub returns : goal.returns
returns g c = rw (← c.self.view_is) (c.up_to.ensures 0 c.place.ensures)
