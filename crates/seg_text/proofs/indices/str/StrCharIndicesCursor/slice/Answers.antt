use Rattle.std.proofs.Common.{◌+◌}
use Rattle.seg_text.specs.Decoding.{read_utf8, utf8_items}
use Rattle.seg_text.proofs.Slice.{slice-order, slice-text}
use Rattle.seg_text.proofs.Str.{seek-boundary}
use Rattle.seg_text.specs.Lemmas.Utf8Stable.{read_utf8-stable}
use Rattle.seg_text.proofs.indices.str.StrCharIndicesCursor.slice.Goals as goal

pub range-requires-clause-start_le_end : goal.range-requires-clause-start_le_end
unfolding utf8_items
range-requires-clause-start_le_end c =
    slice-order read_utf8 read_utf8-stable c.requires.0 c.requires.1 _ _ c.self.inside.front_offset c.self.inside.text.now
    c.self.invariant.0 (rw (← c.self.view_is) at c.requires.2) (rw (← c.self.view_is) at c.requires.3)

pub range-requires-clause-start_boundary : goal.range-requires-clause-start_boundary
unfolding utf8_items
range-requires-clause-start_boundary c some =
    seek-boundary c.requires.0 _ c.self.inside.front_offset _ c.self.invariant.0 c.self.invariant.1 (rw (← c.self.view_is) at c.requires.2)

pub range-requires-clause-end_boundary : goal.range-requires-clause-end_boundary
unfolding utf8_items
range-requires-clause-end_boundary c =
    seek-boundary (c.requires.0 + c.requires.1) _ c.self.inside.front_offset _ c.self.invariant.0 c.self.invariant.1
    (rw (← c.self.view_is) at c.requires.3)

pub returns : goal.returns
unfolding utf8_items
returns c j k begins ends =
    rw (← c.self.view_is, c.new.ensures, c.range.ensures.value)
    (slice-text read_utf8 read_utf8-stable j k _ _ c.self.inside.front_offset c.self.inside.text.now c.self.invariant.0
    (rw (← c.self.view_is) at begins) (rw (← c.self.view_is) at ends))
