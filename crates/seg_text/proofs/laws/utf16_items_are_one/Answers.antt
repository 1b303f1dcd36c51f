use Rattle.seg_text.specs.Decoding.{ReadsUtf16, read_utf16, utf16_items}
use Rattle.seg_text.proofs.Items.{items_by-tile, items_by-only}
use Rattle.seg_text.proofs.Utf16.{read_utf16-of}
use Rattle.seg_text.proofs.laws.utf16_items_are_one.Goals as goal

pub returns-clause-tiles : goal.returns-clause-tiles
unfolding utf16_items
returns-clause-tiles c = items_by-tile ReadsUtf16 read_utf16 read_utf16-of

pub returns-clause-only : goal.returns-clause-only
unfolding utf16_items
returns-clause-only c = items_by-only ReadsUtf16 read_utf16 read_utf16-of
