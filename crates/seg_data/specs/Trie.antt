-- Packed tries: flat arrays of nodes and edges, and the words that are read along them.
use Rattle.std.specs.Prelude.{◌≡◌, ℕ, zero, suc, ◌+◌, ◌-◌, ◌<◌, ◌≤◌, Bool, true, false, List, [], ◌∷◌, ◌++◌, length, map, take, drop, slice_index, slice_index_or}
use Rattle.seg_data.specs.WordSets.{Words}

pub record Trie : Type 0 where
  -- for each node, whether it is a word
  pub flags : List Bool
  -- for each node, where its edges begin: they end where those of the next node begin
  pub starts : List ℕ
  -- for each edge, its code point and its target
  pub edges : List (ℕ × ℕ)

abbrev pub trie : List Bool → List ℕ → List (ℕ × ℕ) → Trie
trie flags starts edges = record { flags = flags; starts = starts; edges = edges }

-- the edges of a node
abbrev pub edges_of : Trie → ℕ → List (ℕ × ℕ)
edges_of t node =
    take (slice_index t.starts (node + 1) - slice_index t.starts node) (drop (slice_index t.starts node) t.edges)

-- the empty word, if it is one
abbrev pub empty_word : Bool → Words
empty_word true = [] ∷ []
empty_word false = []

-- the words along edges: each begins with an edge's code point, and goes on with a word from its target
abbrev pub words_along : (ℕ → Words) → List (ℕ × ℕ) → Words
words_along words_from [] = []
words_along words_from (edge ∷ edges) = map (λ word. edge.0 ∷ word) (words_from edge.1) ++ words_along words_from edges

-- the words from a node that are shorter than this bound
unfoldable pub words_below : Trie → ℕ → ℕ → Words
words_below t zero node = []
words_below t (suc bound) node =
    empty_word (slice_index_or t.flags node false) ++ words_along (words_below t bound) (edges_of t node)

-- all words from a node: none is longer than there are nodes
unfoldable pub words_from : Trie → ℕ → Words
words_from t node = words_below t (suc (length t.flags)) node

-- the code points of edges rise strictly
abbrev pub AreEdgesRising : List (ℕ × ℕ) → Type 0
AreEdgesRising edges =
    (i j : ℕ) → i < j → j < length edges → (slice_index_or edges i (0, 0)).0 < (slice_index_or edges j (0, 0)).0

-- a node's edges rise, and lead to later nodes of so many. Each node but the root leads to a word
pub record IsNode (count : ℕ) (t : Trie) (node : ℕ) : Type 0 where
  pub order : slice_index t.starts node ≤ slice_index t.starts (node + 1)
  pub within : slice_index t.starts (node + 1) ≤ length t.edges
  pub rises : AreEdgesRising (edges_of t node)
  pub later : (k : ℕ) → k < length (edges_of t node) → node < (slice_index_or (edges_of t node) k (0, 0)).1
  pub known : (k : ℕ) → k < length (edges_of t node) → (slice_index_or (edges_of t node) k (0, 0)).1 < count
  pub leads : 0 < node → slice_index_or t.flags node false ≡ false → slice_index t.starts node < slice_index t.starts (node + 1)

-- there is a root, and each node is one
pub record IsTrie (t : Trie) : Type 0 where
  pub root : 0 < length t.flags
  pub total : length t.starts ≡ length t.flags + 1
  pub nodes : (node : ℕ) → node < length t.flags → IsNode (length t.flags) t node

-- the edges before this place have lower code points, and those from there on don't
pub record IsFirstFrom (edges : List (ℕ × ℕ)) (code_point place : ℕ) : Type 0 where
  pub within : place ≤ length edges
  pub before : (k : ℕ) → k < place → (slice_index_or edges k (0, 0)).0 < code_point
  pub after : (k : ℕ) → place ≤ k → k < length edges → code_point ≤ (slice_index_or edges k (0, 0)).0
