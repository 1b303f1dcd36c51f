-- Patterns in a trie: nodes are numbers, and a letter leads from one to another.
use Rattle.std.specs.Prelude.{ℕ, ◌+◌, ◌==◌, ◌&&◌, Bool, max, Option, Some, None, List, [], ◌∷◌, ◌++◌, take, drop, length, slice_index, slice_index_or, Contains, ◌⊎◌, ◌≡◌, ◌<◌, ◌≤◌}
use Rattle.std.specs.Option.{option_map_or}
use Rattle.std.specs.HashMap.{get}
use Rattle.seg_hyphens.specs.Liang.{Pattern}
use Rattle.seg_hyphens.specs.declared.trie.Trie.{Trie}

-- the node to which letters lead from a node
unfoldable pub walk : (ℕ → ℕ → Option ℕ) → ℕ → List ℕ → Option ℕ
walk child node [] = Some node
walk child node (letter ∷ letters) = option_map_or (λ next. walk child next letters) (child node letter) None

-- the digits of a node
abbrev pub node_digits : List (ℕ × ℕ) → List ℕ → ℕ → List ℕ
node_digits ranges digits node =
    take (slice_index_or ranges node (0, 0)).1 (drop (slice_index_or ranges node (0, 0)).0 digits)

-- the digits of letters
abbrev pub letter_digits : (ℕ → ℕ → Option ℕ) → List (ℕ × ℕ) → List ℕ → List ℕ → List ℕ
letter_digits child ranges digits letters = option_map_or (node_digits ranges digits) (walk child 0 letters) []

-- each node has a name, the letters that lead to it from the root, 0, and a range of the digits
pub record HasNames (child : ℕ → ℕ → Option ℕ) (ranges : List (ℕ × ℕ)) (digits : List ℕ) : Type 0 where
  pub name : ℕ → List ℕ
  pub some : 0 < length ranges
  pub root : name 0 ≡ []
  pub inside : (node letter next : ℕ) → child node letter ≡ Some next → node < length ranges
  pub known : (node letter next : ℕ) → child node letter ≡ Some next → next < length ranges
  pub step : (node letter next : ℕ) → child node letter ≡ Some next → name next ≡ name node ++ letter ∷ []
  pub range : (node : ℕ) → node < length ranges
      → (slice_index_or ranges node (0, 0)).0 + (slice_index_or ranges node (0, 0)).1 ≤ length digits

-- whether two pairs have equal nodes and equal letters
abbrev pub is_same : ℕ × ℕ → ℕ × ℕ → Bool
is_same a b = (a.0 == b.0) && (a.1 == b.1)

-- the node to which a letter leads
abbrev pub child : Trie → ℕ → ℕ → Option ℕ
child trie node letter = get is_same trie.children (node, letter)

abbrev pub IsTrie : Trie → Type 0
IsTrie trie = HasNames (child trie) trie.ranges.items trie.digits.items

-- nodes and ranges that are read are there
pub record IsSound (trie : Trie) : Type 0 where
  pub some : 0 < length trie.ranges.items
  pub known : (node letter next : ℕ) → child trie node letter ≡ Some next → next < length trie.ranges.items
  pub range : (node : ℕ) → node < length trie.ranges.items
      → (slice_index_or trie.ranges.items node (0, 0)).0 + (slice_index_or trie.ranges.items node (0, 0)).1 ≤ length trie.digits.items

-- the digits that are kept of letters
abbrev pub kept : Trie → List ℕ → List ℕ
kept trie = letter_digits (child trie) trie.ranges.items trie.digits.items

-- what is kept of letters are the greatest digits of the patterns with these letters
pub record Keeps (trie : Trie) (patterns : List Pattern) : Type 0 where
  pub greatest : (pattern : Pattern) → Contains patterns pattern → (offset : ℕ)
      → slice_index pattern.digits offset ≤ slice_index (kept trie pattern.letters) offset
  pub are : (letters : List ℕ) (offset : ℕ) → 0 < slice_index (kept trie letters) offset
      → (pattern : Pattern) × (Contains patterns pattern × (pattern.letters ≡ letters)
      × (slice_index pattern.digits offset ≡ slice_index (kept trie letters) offset))

-- letters that lead to a node still do, and all keep their digits
pub record Grows (old new : Trie) : Type 0 where
  pub is : IsTrie new
  pub leads : (letters : List ℕ) (node : ℕ) → walk (child old) 0 letters ≡ Some node → walk (child new) 0 letters ≡ Some node
  pub keeps : (letters : List ℕ) → kept new letters ≡ kept old letters

-- the greater of two digits at each place
abbrev pub merged : List ℕ → List ℕ → List ℕ
merged [] digits = digits
merged (digit ∷ digits) [] = digit ∷ digits
merged (digit ∷ digits) (other ∷ others) = max digit other ∷ merged digits others

-- these letters get these digits, and no others do
pub record Adds (old new : Trie) (letters digits : List ℕ) : Type 0 where
  pub same : kept new letters ≡ merged (kept old letters) digits
  pub others : (any : List ℕ) → (any ≡ letters) ⊎ (kept new any ≡ kept old any)
