-- Liang's definition on characters, and how patterns of characters become patterns of bytes.
use Rattle.std.specs.Prelude.{ℕ, ◌+◌, ◌-◌, ◌%◌, List, [], ◌∷◌, ◌++◌, drop, length, map, replicate, slice_index, encode_utf8, encode_utf8_all, ◌≡◌, ◌<◌, ◌≤◌}
use Rattle.seg_hyphens.specs.Liang.{Hyphenation, IsValue, Pattern, edged}

-- a pattern has letters, and one digit more
pub record IsWhole (pattern : Pattern) : Type 0 where
  pub some : 0 < length pattern.letters
  pub one_more : length pattern.digits ≡ length pattern.letters + 1

-- a word may be hyphenated behind so many of its characters
pub record IsCharacterPoint (hyphenation : Hyphenation) (word : List ℕ) (count : ℕ) : Type 0 where
  pub inside : count < length word
  pub value : ℕ
  pub is : IsValue hyphenation.patterns (edged word) (count + 1) value
  pub odd : value % 2 ≡ 1
  pub left : hyphenation.left ≤ count
  pub right : count + hyphenation.right ≤ length word

-- a digit before each byte of these letters, and the last: that of a letter stands before its first byte, and 0 before its others
abbrev pub byte_digits : List ℕ → List ℕ → List ℕ
byte_digits [] digits = slice_index digits 0 ∷ []
byte_digits (letter ∷ letters) digits =
    slice_index digits 0 ∷ replicate (length (encode_utf8 letter) - 1) 0 ++ byte_digits letters (drop 1 digits)

-- patterns of characters in bytes of UTF-8
abbrev pub in_bytes : Pattern → Pattern
in_bytes pattern = record { letters = encode_utf8_all pattern.letters; digits = byte_digits pattern.letters pattern.digits }

abbrev pub all_in_bytes : Hyphenation → Hyphenation
all_in_bytes hyphenation = record { left = hyphenation.left; right = hyphenation.right; patterns = map in_bytes hyphenation.patterns }
