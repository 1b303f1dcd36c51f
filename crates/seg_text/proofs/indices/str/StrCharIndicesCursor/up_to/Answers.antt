use Rattle.std.proofs.Common.{◌≡◌, ◌-◌, arith}
use Rattle.seg_text.specs.Decoding.{read_utf8, utf8_items}
use Rattle.seg_text.specs.Lemmas.Utf8Stable.{read_utf8-stable}
use Rattle.seg_text.proofs.Slice.{up_to-found}
use Rattle.seg_text.proofs.Str.{seek-boundary, up_to-utf8}
use Rattle.seg_text.proofs.indices.str.StrCharIndicesCursor.up_to.Goals as goal

pub range-requires-clause-end_boundary : goal.range-requires-clause-end_boundary
unfolding utf8_items
range-requires-clause-end_boundary c =
    seek-boundary c.requires.0 _ c.self.inside.front_offset _ c.self.invariant.0 c.self.invariant.1 (rw (← c.self.view_is) at c.requires.1)

pub invariant_of-result : goal.invariant_of-result
unfolding utf8_items
invariant_of-result c =
    let none : c.args.to - 0 ≡ c.args.to = omega arith in
    let here = rw (← c.self.view_is) at c.requires.1 in
    rw (c.range.ensures.value, none)
    (up_to-utf8 c.requires.0 _ c.self.inside.front_offset c.self.inside.text.now c.self.invariant.0 c.self.invariant.1 here)

pub returns : goal.returns
unfolding utf8_items
returns c k ends =
    let none : c.args.to - 0 ≡ c.args.to = omega arith in
    rw (← c.self.view_is, c.range.ensures.value, none)
    (up_to-found read_utf8 read_utf8-stable k _ c.self.inside.front_offset c.self.inside.text.now c.self.invariant.0 (rw (← c.self.view_is) at ends)).before
