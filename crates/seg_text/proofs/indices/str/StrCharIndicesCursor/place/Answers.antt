use Rattle.std.proofs.Common.{sym, ◌∙◌}
use Rattle.seg_text.specs.Decoding.{read_utf8, utf8_items}
use Rattle.seg_text.specs.Lemmas.Readers.{place_of-items_by}
use Rattle.seg_text.specs.Lemmas.Rising.{read_utf8-reader}
use Rattle.seg_text.proofs.indices.str.StrCharIndicesCursor.place.Goals as goal

pub returns : goal.returns
unfolding utf8_items
returns c = c.offset.ensures ∙ sym (place_of-items_by read_utf8 read_utf8-reader _ _)
