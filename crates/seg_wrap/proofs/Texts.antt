-- What is known of a text that stands in some units.
use Rattle.std.proofs.Common.{◌≡◌, ℕ, List, length, arith}
use Rattle.seg_text.specs.Items.{IsRising, Text, start_of}
use Rattle.seg_text.specs.Decoding.{utf8, utf8_items, read_utf8, utf16, utf16_items, read_utf16}
use Rattle.seg_text.specs.Lemmas.Readers.{place_of-items_by}
use Rattle.seg_text.specs.Lemmas.Rising.{read_utf8-reader, utf8_items-rises, read_utf16-reader, utf16_items-rises}

-- it begins with them, and ends with them
pub record IsTextOf (units : List ℕ) (text : Text) : Type 0 where
  pub rises : IsRising text.items text.end
  pub start : start_of text ≡ 0
  pub end : text.end ≡ length units

pub utf8-text : (bytes : List ℕ) → IsTextOf bytes (utf8 bytes)
unfolding utf8_items
utf8-text bytes = record {
  rises = utf8_items-rises 0 bytes;
  start = place_of-items_by read_utf8 read_utf8-reader 0 bytes;
  end = omega arith;
}

pub utf16-text : (units : List ℕ) → IsTextOf units (utf16 units)
unfolding utf16_items
utf16-text units = record {
  rises = utf16_items-rises 0 units;
  start = place_of-items_by read_utf16 read_utf16-reader 0 units;
  end = omega arith;
}
