-- Words are lists of code points. A set of words is a list of them, in which their order and repetitions say nothing.
use Rattle.std.specs.Prelude.{ℕ, List, map, Vec, ◌↔◌, Bool, true, false, ◌==◌, if◌then◌else◌, [], ◌∷◌, Contains, ◌≡◌, ◌<◌, nat_lt, length, slice_index_or}
use Rattle.std.specs.Borrow.{Bor}
use Rattle.std.specs.Str.{chars}
use Rattle.std.specs.declared.alloc.Global.{Global}

abbrev pub Words : Type 0
Words = List (List ℕ)

-- two lists have each other's words
abbrev pub IsSameSet : Words → Words → Type 0
IsSameSet xs ys = (word : List ℕ) → Contains xs word ↔ Contains ys word

-- what follows a code point in the words that begin with it
abbrev pub tails_after : ℕ → Words → Words
tails_after code_point [] = []
tails_after code_point ([] ∷ words) = tails_after code_point words
tails_after code_point ((first ∷ rest) ∷ words) =
    if first == code_point then rest ∷ tails_after code_point words else tails_after code_point words

-- what follows some code points in the words that begin with them
abbrev pub tails : List ℕ → Words → Words
tails [] words = words
tails (code_point ∷ read) words = tails read (tails_after code_point words)

-- is the empty word among them
abbrev pub has_empty : Words → Bool
has_empty [] = false
has_empty ([] ∷ words) = true
has_empty ((first ∷ rest) ∷ words) = has_empty words

-- is a word among them that isn't empty
abbrev pub has_nonempty : Words → Bool
has_nonempty [] = false
has_nonempty ([] ∷ words) = has_nonempty words
has_nonempty ((first ∷ rest) ∷ words) = true

-- Texts as lists of code points.

-- the code points of each text
abbrev pub code_points_of_each : List (Bor (List ℕ)) → Words
code_points_of_each texts = map (λ text. chars text.now) texts

-- the words that vectors hold
abbrev pub held : List (Vec ℕ Global) → Words
held vectors = map (λ vector. vector.items) vectors

-- Words in order.

-- is a list of code points before another, as in a dictionary
abbrev pub is_before : List ℕ → List ℕ → Bool
is_before [] [] = false
is_before [] (y ∷ ys) = true
is_before (x ∷ xs) [] = false
is_before (x ∷ xs) (y ∷ ys) = if x == y then is_before xs ys else nat_lt x y

-- each word is before all later ones
abbrev pub IsInOrder : Words → Type 0
IsInOrder words =
    (j k : ℕ) → j < k → k < length words → is_before (slice_index_or words j []) (slice_index_or words k []) ≡ true
