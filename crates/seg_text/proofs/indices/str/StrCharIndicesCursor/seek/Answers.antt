use Rattle.seg_text.specs.Decoding.{read_utf8, utf8_items}
use Rattle.seg_text.proofs.Cursors.{seek-within, seek-text}
use Rattle.seg_text.proofs.Str.{seek-utf8}
use Rattle.seg_text.specs.Lemmas.Rising.{read_utf8-reader}
use Rattle.seg_text.proofs.indices.str.StrCharIndicesCursor.seek.Goals as goal

pub invariant_of-self : goal.invariant_of-self
unfolding utf8_items
invariant_of-self c =
    let here = rw (← c.self.view_is) at c.requires.1 in (
      seek-within read_utf8 read_utf8-reader c.requires.0 _ c.self.inside.front_offset _ c.self.invariant.0 here,
      seek-utf8 c.requires.0 _ c.self.inside.front_offset _ c.self.invariant.0 c.self.invariant.1 here,
    )

pub returns : goal.returns
unfolding utf8_items
returns c k here =
    rw (← c.self.view_is) (seek-text read_utf8 read_utf8-reader k _ c.self.inside.front_offset c.self.inside.text.now c.self.invariant.0 (rw (← c.self.view_is) at here))
