use Rattle.seg_text.specs.Decoding.{ReadsLatin1, read_latin1, latin1_items}
use Rattle.seg_text.proofs.Items.{items_by-tile, items_by-only}
use Rattle.seg_text.proofs.Latin1.{read_latin1-of}
use Rattle.seg_text.proofs.laws.latin1_items_are_one.Goals as goal

pub returns-clause-tiles : goal.returns-clause-tiles
unfolding latin1_items
returns-clause-tiles c = items_by-tile ReadsLatin1 read_latin1 read_latin1-of

pub returns-clause-only : goal.returns-clause-only
unfolding latin1_items
returns-clause-only c = items_by-only ReadsLatin1 read_latin1 read_latin1-of
