-- Whole texts begin at 0, and end after all of their units.
use Rattle.std.proofs.Common.{◌≡◌, ℕ, List}
use Rattle.seg_text.specs.Items.{start_of}
use Rattle.seg_text.specs.Decoding.{read_latin1, latin1_items, latin1, read_utf8, utf8_items, utf8, read_utf16, utf16_items, utf16}
use Rattle.seg_text.specs.Lemmas.Readers.{place_of-items_by}
use Rattle.seg_text.specs.Lemmas.Rising.{read_latin1-reader, read_utf8-reader, read_utf16-reader}

pub begins-latin1 : (bytes : List ℕ) → start_of (latin1 bytes) ≡ 0
unfolding latin1_items
begins-latin1 bytes = place_of-items_by read_latin1 read_latin1-reader 0 bytes

pub begins-utf8 : (bytes : List ℕ) → start_of (utf8 bytes) ≡ 0
unfolding utf8_items
begins-utf8 bytes = place_of-items_by read_utf8 read_utf8-reader 0 bytes

pub begins-utf16 : (units : List ℕ) → start_of (utf16 units) ≡ 0
unfolding utf16_items
begins-utf16 units = place_of-items_by read_utf16 read_utf16-reader 0 units
