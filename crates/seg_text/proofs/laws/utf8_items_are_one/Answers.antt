use Rattle.seg_text.specs.Decoding.{ReadsUtf8, read_utf8, utf8_items}
use Rattle.seg_text.proofs.Items.{items_by-tile, items_by-only}
use Rattle.seg_text.proofs.Utf8.{read_utf8-of}
use Rattle.seg_text.proofs.laws.utf8_items_are_one.Goals as goal

pub returns-clause-tiles : goal.returns-clause-tiles
unfolding utf8_items
returns-clause-tiles c = items_by-tile ReadsUtf8 read_utf8 read_utf8-of

pub returns-clause-only : goal.returns-clause-only
unfolding utf8_items
returns-clause-only c = items_by-only ReadsUtf8 read_utf8 read_utf8-of
