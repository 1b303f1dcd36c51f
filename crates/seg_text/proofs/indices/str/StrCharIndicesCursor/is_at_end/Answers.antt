use Rattle.seg_text.specs.Decoding.{read_utf8, utf8_items}
use Rattle.seg_text.proofs.Cursors.{at-end}
use Rattle.seg_text.specs.Lemmas.Rising.{read_utf8-reader}
use Rattle.seg_text.proofs.indices.str.StrCharIndicesCursor.is_at_end.Goals as goal

pub returns : goal.returns
unfolding utf8_items
returns c = rw (← c.self.view_is) (at-end read_utf8 read_utf8-reader _ _ c.self.invariant.0)
