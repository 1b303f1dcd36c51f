use Rattle.std.proofs.Common.{◌+◌, arith}
use Rattle.seg_text.proofs.Encodings.{seek-within, slice-order, slice-text}
use Rattle.seg_text.proofs.indices.units.IndicesCursor.slice.Goals as goal

pub slice_bounds-new-count : goal.slice_bounds-new-count
slice_bounds-new-count g c =
    slice-order g.met.E.ReadsUnits.is_encoding c.requires.0 c.requires.1 _ _ c.self.inside.front_offset c.self.inside.units.now
    c.self.invariant (rw (← c.self.view_is) at c.requires.2) (rw (← c.self.view_is) at c.requires.3)

pub offset_bounds-self-inside-from : goal.offset_bounds-self-inside-from
offset_bounds-self-inside-from g c =
    omega (
      arith,
      slice_bounds-new-count g c,
      c.self.told,
      seek-within g.met.E.ReadsUnits.is_encoding (c.requires.0 + c.requires.1) _ c.self.inside.front_offset _ c.self.invariant
          (rw (← c.self.view_is) at c.requires.3),
    )

pub slice_bounds-new-start : goal.slice_bounds-new-start
slice_bounds-new-start g c =
    omega (
      arith,
      slice_bounds-new-count g c,
      seek-within g.met.E.ReadsUnits.is_encoding (c.requires.0 + c.requires.1) _ c.self.inside.front_offset _ c.self.invariant
          (rw (← c.self.view_is) at c.requires.3),
    )

pub slice_bounds-new-end : goal.slice_bounds-new-end
slice_bounds-new-end g c =
    omega (
      arith,
      slice_bounds-new-count g c,
      seek-within g.met.E.ReadsUnits.is_encoding (c.requires.0 + c.requires.1) _ c.self.inside.front_offset _ c.self.invariant
          (rw (← c.self.view_is) at c.requires.3),
    )

pub returns : goal.returns
returns g c j k begins ends =
    rw (← c.self.view_is, c.new.ensures)
    (slice-text g.met.E.ReadsUnits.is_encoding j k _ _ c.self.inside.front_offset c.self.inside.units.now c.self.invariant
    (rw (← c.self.view_is) at begins) (rw (← c.self.view_is) at ends))
