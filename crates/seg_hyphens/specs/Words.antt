-- Where the words of a text may be hyphenated.
use Rattle.std.specs.Prelude.{ℕ, ◌+◌, Bool, true, false, List, [], ◌∷◌, ◌++◌, take, length, map, encode_utf8_all, All, Contains, ◌↔◌, ◌≡◌, ◌<◌, ◌≤◌}
use Rattle.std.specs.Char.Unicode.Alphabetic.{is_alphabetic}
use Rattle.std.specs.Char.Unicode.ToLowercase.{to_lowercase}
use Rattle.std.specs.List.Sorted.{IsStrictlyIncreasing}
use Rattle.seg_text.specs.Decoding.{character_of}
use Rattle.seg_text.specs.Items.{Text, code_points, start_of, rest_after}
use Rattle.seg_hyphens.specs.declared.patterns.HyphenationPatterns.{HyphenationPatterns}
use Rattle.seg_hyphens.specs.Liang.{Hyphenation, IsPoint}
use Rattle.seg_hyphens.specs.Patterns.{Means}

-- the character of a code point is a letter
unfoldable pub is_letter : ℕ → Bool
is_letter c = is_alphabetic (character_of c)

-- the one character of a list that has no other, or else this one
abbrev pub only_or : ℕ → List ℕ → ℕ
only_or this (c ∷ []) = c
only_or this _ = this

-- the character of a code point in lower case, where that is one character
unfoldable pub lower_of : ℕ → ℕ
lower_of c = only_or (character_of c) (to_lowercase (character_of c))

-- characters in lower case
abbrev pub lowered : List ℕ → List ℕ
lowered characters = map lower_of characters

-- a word between what stands before and after it: a longest run of letters
pub record IsWord (before word after : List ℕ) : Type 0 where
  pub letters : All (λ c. is_letter c ≡ true) word
  pub starts : (others : List ℕ) (c : ℕ) → before ≡ others ++ c ∷ [] → is_letter c ≡ false
  pub ends : (c : ℕ) (others : List ℕ) → after ≡ c ∷ others → is_letter c ≡ false

-- a word may be hyphenated behind so many of its characters: where it may be in lower case, but not at its start
pub record IsPointInside (hyphenation : Hyphenation) (word : List ℕ) (inside : ℕ) : Type 0 where
  pub some : 0 < inside
  pub point : IsPoint hyphenation (encode_utf8_all (lowered word)) (length (encode_utf8_all (take inside (lowered word))))

-- a word of these characters may be hyphenated behind so many of them all
pub record IsWordPoint (hyphenation : Hyphenation) (characters : List ℕ) (count : ℕ) : Type 0 where
  pub before : List ℕ
  pub word : List ℕ
  pub after : List ℕ
  pub split : characters ≡ before ++ (word ++ after)
  pub is : IsWord before word after
  pub inside : ℕ
  pub point : IsPointInside hyphenation word inside
  pub counted : count ≡ length before + inside

-- these are all counts behind which a word may be hyphenated, in order
pub record AreWordPoints (hyphenation : Hyphenation) (characters counts : List ℕ) : Type 0 where
  pub are : (count : ℕ) → Contains counts count ↔ IsWordPoint hyphenation characters count
  pub ordered : IsStrictlyIncreasing counts

-- the places of a text that stand behind so many of its items
abbrev pub places_behind : Text → List ℕ → List ℕ
places_behind text counts = map (λ count. start_of (rest_after count text)) counts

-- these numbers stand from one on and below another, in order
pub record AreRising (low high : ℕ) (numbers : List ℕ) : Type 0 where
  pub within : All (λ number. (low ≤ number) × (number < high)) numbers
  pub ordered : IsStrictlyIncreasing numbers

-- these are all places where the words of a text may be hyphenated, in order: each stands strictly inside the text
pub record PlacesIn (patterns : HyphenationPatterns) (text : Text) (places : List ℕ) : Type 0 where
  pub counts : List ℕ
  pub rising : AreRising 1 (length text.items) counts
  pub are : (hyphenation : Hyphenation) → Means patterns hyphenation → AreWordPoints hyphenation (code_points text.items) counts
  pub places_are : places ≡ places_behind text counts

-- How they are found.

-- of the numbers from one on and below another these are all that are so
pub record AreThose (Is : ℕ → Type 0) (low high : ℕ) (numbers : List ℕ) : Type 0 where
  pub are : (number : ℕ) → Contains numbers number → Is number
  pub all : (number : ℕ) → low ≤ number → number < high → Is number → Contains numbers number

-- one of these points, places in UTF-8, stands behind so many of these characters
abbrev pub HasPoint : List ℕ → List ℕ → ℕ → Type 0
HasPoint points characters count = (0 < count) × Contains points (length (encode_utf8_all (take count characters)))

-- the places of these points of a word are pushed
pub record PushesPoints (points : List ℕ) (word : Text) (old new : List ℕ) : Type 0 where
  pub insides : List ℕ
  pub rising : AreRising 1 (length word.items) insides
  pub are : IsStrictlyIncreasing points → AreThose (HasPoint points (lowered (code_points word.items))) 0 (length word.items) insides
  pub places_are : new ≡ old ++ places_behind word insides

-- the places where a word may be hyphenated are pushed
pub record PushesWord (patterns : HyphenationPatterns) (word : Text) (old new : List ℕ) : Type 0 where
  pub insides : List ℕ
  pub rising : AreRising 1 (length word.items) insides
  pub are : (hyphenation : Hyphenation) → Means patterns hyphenation
      → AreThose (IsPointInside hyphenation (code_points word.items)) 0 (length word.items) insides
  pub places_are : new ≡ old ++ places_behind word insides
