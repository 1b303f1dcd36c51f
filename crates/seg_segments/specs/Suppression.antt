-- Boundaries of sentences that are left out, because the text before them ends with an abbreviation.
use Rattle.std.specs.Prelude.{◌≡◌, ℕ, ◌<◌, ◌++◌, ◌⊎◌, ◌==◌, ◌&&◌, ◌||◌, not, nat_lt, Bool, false, List, [], ◌∷◌, All, Contains, IsTrue, filter, length, take}
use Rattle.std.specs.List.{list_all}
use Rattle.std.specs.Char.{is_whitespace}
use Rattle.std.specs.Char.Unicode.Alphabetic.{is_alphabetic}
use Rattle.std.specs.Char.Unicode.Numeric.{is_numeric}
use Rattle.seg_text.specs.Decoding.{character_of}
use Rattle.seg_text.specs.declared.boundary.Boundary.{Boundary}
use Rattle.seg_data.specs.WordSets.{Words, has_empty, tails_after}

-- a letter or a digit
abbrev pub is_letter_or_digit : ℕ → Bool
is_letter_or_digit c = is_alphabetic (character_of c) || is_numeric (character_of c)

-- what separates lines or paragraphs: LF, CR and the class Sep of UAX #29
abbrev pub is_separator : ℕ → Bool
is_separator c = (c == 0x0A) || (c == 0x0D) || (c == 0x85) || (c == 0x2028) || (c == 0x2029)

-- a space: any other white space, the class Sp of UAX #29
abbrev pub is_space : ℕ → Bool
is_space c = is_whitespace (character_of c) && not (is_separator c)

-- nothing, or code points of which the last is neither a letter nor a digit
abbrev pub IsApart : List ℕ → Type 0
IsApart front = (front ≡ []) ⊎ ((others : List ℕ) × (last : ℕ) × (front ≡ others ++ last ∷ []) × (is_letter_or_digit last ≡ false))

-- some code points end with an abbreviation: with one of these words, but not the empty one, and perhaps spaces after it
pub record EndsWithAbbreviation (words : Words) (before : List ℕ) : Type 0 where
  pub front : List ℕ
  pub word : List ℕ
  pub spaces : List ℕ
  pub is : before ≡ front ++ (word ++ spaces)
  pub listed : Contains words word
  pub some : 0 < length word
  pub apart : IsApart front
  pub spaced : All (λ c. IsTrue (is_space c)) spaces

-- As a test:

-- the code points are one of the words, but not the empty one, and perhaps spaces after it
unfoldable pub is_word_and_spaces : Words → List ℕ → Bool
is_word_and_spaces words [] = false
is_word_and_spaces words (c ∷ rest) =
    (has_empty (tails_after c words) && list_all is_space rest) || is_word_and_spaces (tails_after c words) rest

-- they end so, where `joined` says whether a letter or a digit stands before them
unfoldable pub is_abbreviated_after : Bool → Words → List ℕ → Bool
is_abbreviated_after joined words [] = false
is_abbreviated_after joined words (c ∷ rest) =
    (not joined && is_word_and_spaces words (c ∷ rest)) || is_abbreviated_after (is_letter_or_digit c) words rest

abbrev pub is_abbreviated : Words → List ℕ → Bool
is_abbreviated words before = is_abbreviated_after false words before

-- a boundary stays at the end of the code points, and where those before it don't end with an abbreviation
abbrev pub stays_in : Words → List ℕ → Boundary → Bool
stays_in words code_points boundary =
    not (nat_lt boundary.offset (length code_points) && is_abbreviated words (take boundary.offset code_points))

-- the boundaries that the function finds, but those that abbreviations suppress
abbrev pub without_abbreviated : Words → (List ℕ → List Boundary) → List ℕ → List Boundary
without_abbreviated words find code_points = filter (stays_in words code_points) (find code_points)
