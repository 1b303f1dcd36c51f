-- Texts in which nothing is escaped in strings of JSON.
use Rattle.std.specs.Prelude.{◌≡◌, ℕ, ◌+◌, ◌<◌, ◌≤◌, ◌==◌, ◌&&◌, nat_lt, not, Bool, true, List, length, slice_index_or}
use Rattle.std.specs.List.{list_all, slice_range}
use Rattle.std.specs.Str.{IsUtf8}
use Rattle.segment_text.specs.declared.bare.BareStretch.{BareStretch}

-- a byte that stands in a string as it is: no control character, no quotation mark and no backslash
abbrev pub is_bare : ℕ → Bool
is_bare byte = not (nat_lt byte 0x20) && not (byte == 0x22) && not (byte == 0x5C)

-- each byte between two places does
abbrev pub AreAllBare : List ℕ → ℕ → ℕ → Type 0
AreAllBare text from to = (place : ℕ) → from ≤ place → place < to → is_bare (slice_index_or text place 0) ≡ true

-- well-formed text in which each does
abbrev pub AreBare : List ℕ → Type 0
AreBare text = IsUtf8 text × (list_all is_bare text ≡ true)

-- a part of the text in which each byte does
abbrev pub IsBareStretch : List ℕ → BareStretch → Type 0
IsBareStretch text stretch =
    (stretch.text.now ≡ slice_range text stretch.from (stretch.from + length stretch.text.now))
    × (list_all is_bare stretch.text.now ≡ true)
