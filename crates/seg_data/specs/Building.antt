-- A trie that is built from words in order. Each of its nodes is a range of them, (first, end, depth): the words from
-- the first to before the end, which begin with the same code points, as many as the depth.
use Rattle.std.specs.Prelude.{◌≡◌, ℕ, zero, suc, ◌+◌, ◌-◌, ◌<◌, ◌≤◌, Bool, true, false, List, [], ◌∷◌, ◌++◌, length, drop, slice_index, slice_index_or}
use Rattle.seg_data.specs.WordSets.{Words, is_before}
use Rattle.seg_data.specs.Trie.{Trie, edges_of, empty_word, words_along, AreEdgesRising, IsNode}

-- the word of this number
abbrev pub word_at : Words → ℕ → List ℕ
word_at words k = slice_index_or words k []

-- the code point at this depth of the word of this number
abbrev pub letter : Words → ℕ → ℕ → ℕ
letter words depth k = slice_index_or (word_at words k) depth 0

-- what follows the depth in so many words from the first on
unfoldable pub rests : Words → ℕ → ℕ → ℕ → Words
rests words depth first zero = []
rests words depth first (suc count) = drop depth (word_at words first) ∷ rests words depth (first + 1) count

abbrev pub rests_of : Words → ℕ × ℕ × ℕ → Words
rests_of words range = rests words range.2 range.0 (range.1 - range.0)

-- what follows in the words of a node's range
abbrev pub rests_at : Words → List (ℕ × ℕ × ℕ) → ℕ → Words
rests_at words ranges node = rests_of words (slice_index_or ranges node (0, 0, 0))

-- words as long as the depth, and in order behind it
pub record IsRange (words : Words) (range : ℕ × ℕ × ℕ) : Type 0 where
  pub order : range.0 ≤ range.1
  pub within : range.1 ≤ length words
  pub long : (k : ℕ) → range.0 ≤ k → k < range.1 → range.2 ≤ length (word_at words k)
  pub rises : (j k : ℕ) → range.0 ≤ j → j < k → k < range.1
      → is_before (drop range.2 (word_at words j)) (drop range.2 (word_at words k)) ≡ true

-- all words are longer than the depth
abbrev pub AreLonger : Words → ℕ → ℕ → ℕ → Type 0
AreLonger words depth first end = (k : ℕ) → first ≤ k → k < end → depth < length (word_at words k)

-- how a node's words begin: with one that ends at the depth, if the flag says so, and then come longer ones
pub record IsBegun (words : Words) (first end depth : ℕ) (flag : Bool) (begin : ℕ) : Type 0 where
  pub words_are : rests words depth first (end - first) ≡ empty_word flag ++ rests words depth begin (end - begin)
  pub none : flag ≡ false → begin ≡ first
  pub range : IsRange words (begin, end, depth)
  pub longer : AreLonger words depth begin end

-- a group ends here: the words up to it have the same code point at the depth, and the next one hasn't
pub record IsGroup (words : Words) (depth first end next : ℕ) : Type 0 where
  pub more : first < next
  pub within : next ≤ end
  pub same : (k : ℕ) → first ≤ k → k < next → letter words depth k ≡ letter words depth first
  pub differs : next < end → letter words depth next ≡ letter words depth first → ⊥

-- how many code points words have together
abbrev pub total : Words → ℕ
total [] = 0
total (word ∷ words) = length word + total words

-- more than the steps that ranges still take
abbrev pub owed : Words → List (ℕ × ℕ × ℕ) → ℕ
owed words [] = 0
owed words (range ∷ ranges) = 1 + total (rests_of words range) + owed words ranges

-- more than the steps of the ranges from one on, whose nodes don't stand yet
abbrev pub left : Words → List (ℕ × ℕ × ℕ) → ℕ → ℕ
left words ranges done = owed words (drop done ranges)

-- ranges, and the edges to them, were added for the words from `begin` to before `first`, and what is left is from there on
pub record AreAdded (words : Words) (depth begin first end : ℕ) (old_ranges ranges : List (ℕ × ℕ × ℕ)) (old_edges edges : List (ℕ × ℕ)) : Type 0 where
  pub more : List (ℕ × ℕ × ℕ)
  pub added : List (ℕ × ℕ)
  pub order : first ≤ end
  pub ranges_are : ranges ≡ old_ranges ++ more
  pub edges_are : edges ≡ old_edges ++ added
  pub words_are : rests words depth begin (end - begin) ≡ words_along (rests_at words ranges) added ++ rests words depth first (end - first)
  pub rises : AreEdgesRising added
  pub below : first < end → (k : ℕ) → k < length added → (slice_index_or added k (0, 0)).0 < letter words depth first
  pub later : (k : ℕ) → k < length added → length old_ranges ≤ (slice_index_or added k (0, 0)).1
  pub known : (k : ℕ) → k < length added → (slice_index_or added k (0, 0)).1 < length ranges
  pub groups : (k : ℕ) → k < length more → IsRange words (slice_index_or more k (0, 0, 0))
  pub somes : (k : ℕ) → k < length more → (slice_index_or more k (0, 0, 0)).0 < (slice_index_or more k (0, 0, 0)).1
  pub owes : owed words more + total (rests words depth first (end - first)) ≤ total (rests words depth begin (end - begin))
  pub some : begin < first → 0 < length added
  pub begins : begin ≤ first

-- the first nodes of a trie stand, and the ranges of these and of later ones are known
pub record IsDraft (words : Words) (ranges : List (ℕ × ℕ × ℕ)) (t : Trie) : Type 0 where
  pub done : length t.flags ≤ length ranges
  pub total : length t.starts ≡ length t.flags + 1
  pub last : slice_index t.starts (length t.flags) ≡ length t.edges
  pub some : 0 < length ranges
  pub root : slice_index_or ranges 0 (0, 0, 0) ≡ (0, length words, 0)
  pub ranges_are : (n : ℕ) → n < length ranges → IsRange words (slice_index_or ranges n (0, 0, 0))
  pub somes : (n : ℕ) → 0 < n → n < length ranges → (slice_index_or ranges n (0, 0, 0)).0 < (slice_index_or ranges n (0, 0, 0)).1
  pub nodes : (n : ℕ) → n < length t.flags → IsNode (length ranges) t n
  pub filled : (n : ℕ) → n < length t.flags
      → rests_at words ranges n ≡ empty_word (slice_index_or t.flags n false) ++ words_along (rests_at words ranges) (edges_of t n)
