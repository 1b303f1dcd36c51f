-- Where a word may be hyphenated, by Liang's patterns.
use Rattle.std.specs.Prelude.{ℕ, ◌+◌, ◌%◌, Bool, nat_le, nat_lt, ◌||◌, List, [], ◌∷◌, ◌++◌, take, drop, length, slice_index, Contains, ◌↔◌, true, count_by, ◌≡◌, ◌<◌, ◌≤◌}
use Rattle.std.specs.List.Sorted.{IsStrictlyIncreasing}

-- letters, and the digits before, between and behind them
pub record Pattern : Type 0 where
  pub letters : List ℕ
  pub digits : List ℕ

-- patterns, and how many characters of a word stand at least before and behind a point
pub record Hyphenation : Type 0 where
  pub left : ℕ
  pub right : ℕ
  pub patterns : List Pattern

-- a word and its edges: a dot is an edge
abbrev pub edged : List ℕ → List ℕ
edged word = 46 ∷ word ++ 46 ∷ []

-- a pattern fits behind so many letters: there its own stand
abbrev pub Fits : Pattern → List ℕ → ℕ → Type 0
Fits pattern letters start = take (length pattern.letters) (drop start letters) ≡ pattern.letters

-- a pattern that fits has this digit at a place, which is behind so many letters
pub record HasDigit (patterns : List Pattern) (letters : List ℕ) (place digit : ℕ) : Type 0 where
  pub pattern : Pattern
  pub is : Contains patterns pattern
  pub start : ℕ
  pub fits : Fits pattern letters start
  pub offset : ℕ
  pub at : start + offset ≡ place
  pub has : slice_index pattern.digits offset ≡ digit

-- the value of a place: the greatest digit that patterns have there, and 0 where they have none
pub record IsValue (patterns : List Pattern) (letters : List ℕ) (place value : ℕ) : Type 0 where
  pub greatest : (digit : ℕ) → HasDigit patterns letters place digit → digit ≤ value
  pub is : 0 < value → HasDigit patterns letters place value

-- a byte that begins a character
abbrev pub is_first : ℕ → Bool
is_first byte = nat_lt byte 128 || nat_le 192 byte

-- how many characters begin in these bytes
abbrev pub characters : List ℕ → ℕ
characters bytes = count_by is_first bytes

-- a word may be hyphenated behind so many of its bytes: a character begins there, the value is odd, and both parts are long enough
pub record IsPoint (hyphenation : Hyphenation) (word : List ℕ) (place : ℕ) : Type 0 where
  pub inside : place < length word
  pub first : is_first (slice_index word place) ≡ true
  pub value : ℕ
  pub is : IsValue hyphenation.patterns (edged word) (place + 1) value
  pub odd : value % 2 ≡ 1
  pub left : hyphenation.left ≤ characters (take place word)
  pub right : hyphenation.right ≤ characters (drop place word)

-- these are all places where it may, in order
pub record ArePoints (hyphenation : Hyphenation) (word points : List ℕ) : Type 0 where
  pub are : (place : ℕ) → Contains points place ↔ IsPoint hyphenation word place
  pub ordered : IsStrictlyIncreasing points
