-- Each encoding in units is what its reader reads.
use Rattle.std.proofs.Common.{ℕ, refl, sym}
use Rattle.std.proofs.lemmas.List.{map-id}
use Rattle.seg_text.specs.Items.{Reader, items_by, text_by}
use Rattle.seg_text.specs.Decoding.{read_latin1, latin1_items, latin1_from, read_utf8, utf8_items, utf8_from, read_utf16, utf16_items, utf16_from}
use Rattle.seg_text.specs.Lemmas.Encodings.{IsEncoding}
use Rattle.seg_text.specs.Lemmas.Latin1Stable.{read_latin1-stable}
use Rattle.seg_text.specs.Lemmas.Readers.{IsStable, items_by-nil, items_by-cons}
use Rattle.seg_text.specs.Lemmas.Utf16Stable.{read_utf16-stable}
use Rattle.seg_text.specs.Lemmas.Utf8Stable.{read_utf8-stable}

-- where the characters are their code points
by-reader : (read : Reader ℕ) → IsStable read → IsEncoding read (λ c. c) (items_by read) (text_by read)
by-reader read stable = record {
  stable = stable;
  none = λ place. items_by-nil read place;
  some = λ place unit units. items_by-cons read stable.reader place unit units;
  is = λ place units. refl;
  items = λ place units. sym (map-id (items_by read place units));
}

pub latin1-encoding : IsEncoding read_latin1 (λ c. c) latin1_items latin1_from
unfolding latin1_items
latin1-encoding = by-reader read_latin1 read_latin1-stable

pub utf8-encoding : IsEncoding read_utf8 (λ c. c) utf8_items utf8_from
unfolding utf8_items
utf8-encoding = by-reader read_utf8 read_utf8-stable

pub utf16-encoding : IsEncoding read_utf16 (λ c. c) utf16_items utf16_from
unfolding utf16_items
utf16-encoding = by-reader read_utf16 read_utf16-stable
