-- How values are found: letters are looked up in a trie from each start on.
use Rattle.std.specs.Prelude.{ℕ, ◌+◌, ◌%◌, List, take, drop, length, slice_index, Option, Some, None, MatchOption, ◌⊎◌, ◌≡◌, ◌<◌, ◌≤◌, true}
use Rattle.seg_hyphens.specs.declared.trie.Trie.{Trie}
use Rattle.seg_hyphens.specs.Liang.{characters, is_first}
use Rattle.seg_hyphens.specs.Tries.{child, kept, walk}

-- the digit, so far behind a start, that is kept of so many letters from there on
abbrev pub digit_from : Trie → List ℕ → ℕ → ℕ → ℕ → ℕ
digit_from trie letters start count offset = slice_index (kept trie (take count (drop start letters))) offset

-- what was looked up: all letters from starts before this one, and from it fewer than so many
abbrev pub IsDone : List ℕ → ℕ → ℕ → ℕ → ℕ → Type 0
IsDone letters bound fewer start count = (start + count ≤ length letters) × ((start < bound) ⊎ ((start ≡ bound) × (count < fewer)))

-- a value that was looked up
pub record IsFound (trie : Trie) (letters : List ℕ) (bound fewer place value : ℕ) : Type 0 where
  pub start : ℕ
  pub count : ℕ
  pub offset : ℕ
  pub done : IsDone letters bound fewer start count
  pub at : start + offset ≡ place
  pub is : digit_from trie letters start count offset ≡ value

-- values are the greatest digits of all that was looked up
pub record AreRaised (trie : Trie) (letters : List ℕ) (bound fewer : ℕ) (values : List ℕ) : Type 0 where
  pub greatest : (start count offset : ℕ) → IsDone letters bound fewer start count → start + offset < length values
      → digit_from trie letters start count offset ≤ slice_index values (start + offset)
  pub are : (place : ℕ) → 0 < slice_index values place → IsFound trie letters bound fewer place (slice_index values place)

-- the node to which so many letters lead from a start on, or none to which as many or more do
abbrev pub IsNode : Trie → List ℕ → ℕ → ℕ → Option ℕ → Type 0
IsNode trie letters start count node = MatchOption node
    ((more : ℕ) → count ≤ more → start + more ≤ length letters → walk (child trie) 0 (take more (drop start letters)) ≡ None)
    (λ at. (at < length trie.ranges.items) × (start + count ≤ length letters) × (walk (child trie) 0 (take count (drop start letters)) ≡ Some at))

-- a place where values let a word be hyphenated
pub record IsChosen (before behind : ℕ) (values word : List ℕ) (place : ℕ) : Type 0 where
  pub inside : place < length word
  pub first : is_first (slice_index word place) ≡ true
  pub odd : slice_index values (place + 1) % 2 ≡ 1
  pub left : before ≤ characters (take place word)
  pub right : behind ≤ characters (drop place word)
