-- Possibly ill-formed UTF-8, by Table 3-7 of the Unicode Standard.
use Rattle.std.specs.Prelude.{◌≡◌, ℕ, suc, ◌+◌, ◌-◌, ◌*◌, ◌<◌, ◌≤◌, ◌⊎◌, ◌&&◌, ◌||◌, ◌==◌, nat_le, nat_lt, List, [], ◌∷◌, length, take, find, Contains, slice_index, if◌then◌else◌, bit_and}
use Rattle.std.specs.Option.{option_map_or}
use Rattle.seg_text.specs.Items.{Item, Text, Reader, Reading, items_by}

-- the character of a code point: U+FFFD where it is a surrogate or none at all
abbrev pub character_of : ℕ → ℕ
character_of c = if nat_lt c 0xD800 || (nat_le 0xE000 c && nat_le c 0x10FFFF) then c else 0xFFFD

-- the first and the last byte of a range, with both in it
abbrev pub Range : Type 0
Range = ℕ × ℕ

-- a row of the table: the ranges of a sequence's bytes, one for each
abbrev pub Ranges : Type 0
Ranges = List Range

-- the range of the bytes that go on a sequence, where its row says no other
abbrev pub trail : Range
trail = (0x80, 0xBF)

-- the well-formed sequences: in each row the first and last byte that may stand at each place
abbrev pub rows : List Ranges
rows =
    ((0x00, 0x7F) ∷ [])
    ∷ ((0xC2, 0xDF) ∷ trail ∷ [])
    ∷ ((0xE0, 0xE0) ∷ (0xA0, 0xBF) ∷ trail ∷ [])
    ∷ ((0xE1, 0xEC) ∷ trail ∷ trail ∷ [])
    ∷ ((0xED, 0xED) ∷ (0x80, 0x9F) ∷ trail ∷ [])
    ∷ ((0xEE, 0xEF) ∷ trail ∷ trail ∷ [])
    ∷ ((0xF0, 0xF0) ∷ (0x90, 0xBF) ∷ trail ∷ trail ∷ [])
    ∷ ((0xF1, 0xF3) ∷ trail ∷ trail ∷ trail ∷ [])
    ∷ ((0xF4, 0xF4) ∷ (0x80, 0x8F) ∷ trail ∷ trail ∷ [])
    ∷ []

-- a byte stands at an index of the text, and in a range
abbrev pub StandsAt : List ℕ → ℕ → Range → Type 0
StandsAt bytes index range =
    (index < length bytes) × (range.0 ≤ slice_index bytes index) × (slice_index bytes index ≤ range.1)

-- the bytes stand in the first ranges of a row, one in each
abbrev pub Fits : Ranges → List ℕ → Type 0
Fits row [] = Unit {0}
Fits [] (byte ∷ bytes) = ⊥
Fits (range ∷ row) (byte ∷ bytes) = (range.0 ≤ byte) × (byte ≤ range.1) × Fits row bytes

-- the beginning of a well-formed sequence
abbrev pub IsBeginning : List ℕ → Type 0
IsBeginning bytes = (row : Ranges) × Contains rows row × Fits row bytes

-- a well-formed sequence
abbrev pub IsWellFormed : List ℕ → Type 0
IsWellFormed bytes = (row : Ranges) × Contains rows row × Fits row bytes × (length bytes ≡ length row)

-- the code point of a well-formed sequence: the bits of its bytes that its length doesn't fix
unfoldable pub scalar_of : List ℕ → ℕ
scalar_of [] = 0
scalar_of (a ∷ []) = a
scalar_of (a ∷ b ∷ []) = (a - 0xC0) * 0x40 + (b - 0x80)
scalar_of (a ∷ b ∷ c ∷ []) = (a - 0xE0) * 0x1000 + (b - 0x80) * 0x40 + (c - 0x80)
scalar_of (a ∷ b ∷ c ∷ d ∷ bytes) = (a - 0xF0) * 0x40000 + (b - 0x80) * 0x1000 + (c - 0x80) * 0x40 + (d - 0x80)

-- a well-formed sequence, where one begins
pub record ReadsWellFormed (bytes : List ℕ) (taken code_point : ℕ) : Type 0 where
  pub well_formed : IsWellFormed (take taken bytes)
  pub scalar : code_point ≡ scalar_of (take taken bytes)

-- or else, as U+FFFD, the longest beginning of any well-formed sequence that stands there, at least one byte
pub record ReadsIllFormed (bytes : List ℕ) (taken code_point : ℕ) : Type 0 where
  pub ill_formed : (n : ℕ) → IsWellFormed (take n bytes) → ⊥
  pub beginning : (taken ≡ 1) ⊎ IsBeginning (take taken bytes)
  pub longest : (n : ℕ) → taken < n → n ≤ length bytes → IsBeginning (take n bytes) → ⊥
  pub replacement : code_point ≡ 0xFFFD

-- one item
abbrev pub ReadsUtf8 : List ℕ → ℕ → ℕ → Type 0
ReadsUtf8 bytes taken code_point = ReadsWellFormed bytes taken code_point ⊎ ReadsIllFormed bytes taken code_point

-- how many bytes stand in the first ranges of a row
unfoldable pub fitting : Ranges → List ℕ → ℕ
fitting [] bytes = 0
fitting (range ∷ row) [] = 0
fitting (range ∷ row) (byte ∷ bytes) =
    if nat_le range.0 byte && nat_le byte range.1 then suc (fitting row bytes) else 0

-- what begins with a byte of this row
unfoldable pub read_row : Ranges → List ℕ → Reading
read_row row bytes =
    let taken = fitting row bytes in
    (taken, if taken == length row then scalar_of (take taken bytes) else 0xFFFD)

-- a reader of one item: the row that the first byte belongs to decides
unfoldable pub read_utf8 : Reader ℕ
read_utf8 bytes = option_map_or (λ row. read_row row bytes) (find (λ row. nat_lt 0 (fitting row bytes)) rows) (1, 0xFFFD)

-- the items of possibly ill-formed UTF-8 from a place on
unfoldable pub utf8_items : ℕ → List ℕ → List Item
utf8_items place bytes = items_by read_utf8 place bytes

-- the text of possibly ill-formed UTF-8 from a place on
abbrev pub utf8_from : ℕ → List ℕ → Text
utf8_from place bytes = record { items = utf8_items place bytes; end = place + length bytes }

-- the text of possibly ill-formed UTF-8, or of a str
abbrev pub utf8 : List ℕ → Text
utf8 bytes = utf8_from 0 bytes

-- Possibly ill-formed UTF-16.

-- a high surrogate, D800 to DBFF: its upper six bits are 110110
abbrev pub IsHighSurrogate : ℕ → Type 0
IsHighSurrogate unit = bit_and unit 0xFC00 ≡ 0xD800

-- a low surrogate, DC00 to DFFF: its upper six bits are 110111
abbrev pub IsLowSurrogate : ℕ → Type 0
IsLowSurrogate unit = bit_and unit 0xFC00 ≡ 0xDC00

-- a high surrogate, and the low one right after it
pub record IsPair (units : List ℕ) (high low : ℕ) : Type 0 where
  pub two : take 2 units ≡ high ∷ low ∷ []
  pub is_high : IsHighSurrogate high
  pub is_low : IsLowSurrogate low

-- the code point of a pair: the lower ten bits of each, from U+10000 on
abbrev pub pair_of : ℕ → ℕ → ℕ
pair_of high low = bit_and high 0x3FF * 0x400 + bit_and low 0x3FF + 0x10000

-- a pair, where one stands
pub record ReadsPair (units : List ℕ) (taken code_point : ℕ) : Type 0 where
  pub high : ℕ
  pub low : ℕ
  pub pair : IsPair units high low
  pub both : taken ≡ 2
  pub scalar : code_point ≡ pair_of high low

-- or else one unit, with its own number: a surrogate too, where it stands alone
pub record ReadsSingle (units : List ℕ) (taken code_point : ℕ) : Type 0 where
  pub no_pair : (high low : ℕ) → IsPair units high low → ⊥
  pub one : taken ≡ 1
  pub own : take 1 units ≡ code_point ∷ []

-- one item
abbrev pub ReadsUtf16 : List ℕ → ℕ → ℕ → Type 0
ReadsUtf16 units taken code_point = ReadsPair units taken code_point ⊎ ReadsSingle units taken code_point

-- a reader of one item
unfoldable pub read_utf16 : Reader ℕ
read_utf16 [] = (1, 0)
read_utf16 (unit ∷ []) = (1, unit)
read_utf16 (unit ∷ next ∷ units) =
    if (bit_and unit 0xFC00 == 0xD800) && (bit_and next 0xFC00 == 0xDC00) then (2, pair_of unit next) else (1, unit)

-- the items of possibly ill-formed UTF-16 from a place on
unfoldable pub utf16_items : ℕ → List ℕ → List Item
utf16_items place units = items_by read_utf16 place units

-- the text of possibly ill-formed UTF-16 from a place on
abbrev pub utf16_from : ℕ → List ℕ → Text
utf16_from place units = record { items = utf16_items place units; end = place + length units }

-- the text of possibly ill-formed UTF-16
abbrev pub utf16 : List ℕ → Text
utf16 units = utf16_from 0 units

-- Latin-1: each byte is an item, and its number is the code point.

-- one byte, and its number
abbrev pub ReadsLatin1 : List ℕ → ℕ → ℕ → Type 0
ReadsLatin1 bytes taken code_point = (taken ≡ 1) × (take 1 bytes ≡ code_point ∷ [])

-- a reader of one item
abbrev pub read_latin1 : Reader ℕ
read_latin1 [] = (1, 0)
read_latin1 (byte ∷ bytes) = (1, byte)

-- the items of Latin-1 from a place on
unfoldable pub latin1_items : ℕ → List ℕ → List Item
latin1_items place bytes = items_by read_latin1 place bytes

-- the text of Latin-1 from a place on
abbrev pub latin1_from : ℕ → List ℕ → Text
latin1_from place bytes = record { items = latin1_items place bytes; end = place + length bytes }

-- the text of Latin-1
abbrev pub latin1 : List ℕ → Text
latin1 bytes = latin1_from 0 bytes
