-- How a piece is cut by a set of words, at ends of clusters alone.
use Rattle.std.specs.Prelude.{◌≡◌, ℕ, zero, suc, ◌+◌, ◌<◌, ◌≤◌, ◌⊎◌, Bool, false, ◌&&◌, ◌||◌, ◌==◌, nat_le, if◌then◌else◌, Option, Some, None, unwrap_or, List, [], ◌∷◌, ◌++◌, length, take, drop, Contains}
use Rattle.std.specs.List.{prefix_len}
use Rattle.seg_text.specs.declared.boundary.Boundary.{Boundary}
use Rattle.seg_text.specs.Boundaries.{boundary, offsets, Cuts, Stretch, later_boundaries, list_boundaries}
use Rattle.seg_data.specs.WordSets.{Words, tails, has_empty, has_nonempty}
use Rattle.seg_data.specs.declared.provider.ComplexScript.{ComplexScript}
use Rattle.seg_clusters.specs.Scripts.{PieceCuts, at_end}

-- the boundaries of the clusters of a list of code points
abbrev pub Clusters : Type 0
Clusters = List ℕ → List Boundary

-- the greatest number of which something holds
abbrev pub IsGreatest : (ℕ → Type 0) → ℕ → Type 0
IsGreatest Holds n = Holds n × ((m : ℕ) → Holds m → m ≤ n)

-- the least one
abbrev pub IsLeast : (ℕ → Type 0) → ℕ → Type 0
IsLeast Holds n = Holds n × ((m : ℕ) → Holds m → n ≤ m)

-- there is no such number
abbrev pub HoldsOfNone : (ℕ → Type 0) → Type 0
HoldsOfNone Holds = (n : ℕ) → Holds n → ⊥

-- a longer word begins with these code points
abbrev pub IsProperPrefix : Words → List ℕ → Type 0
IsProperPrefix words read = (next : ℕ) × ((tail : List ℕ) × Contains words (read ++ next ∷ tail))

-- the first so many code points, at least one, are a word, and a cluster ends after them
pub record IsWordEnd (words : Words) (Ends : ℕ → Type 0) (rest : List ℕ) (n : ℕ) : Type 0 where
  pub some : 0 < n
  pub within : n ≤ length rest
  pub word : Contains words (take n rest)
  pub ends : Ends n

-- no longer word begins with the first so many code points, at least one
pub record IsDeadEnd (words : Words) (rest : List ℕ) (n : ℕ) : Type 0 where
  pub some : 0 < n
  pub within : n ≤ length rest
  pub dead : IsProperPrefix words (take n rest) → ⊥

-- Some code points are cut first at the end of the longest word at their beginning that ends with a cluster. If there is
-- none, then at the first end of a cluster that isn't before the first dead end; and if there is no dead end, at their end.
abbrev pub IsNextCut : Words → (ℕ → Type 0) → List ℕ → ℕ → Type 0
IsNextCut words Ends rest cut =
    IsGreatest (IsWordEnd words Ends rest) cut
    ⊎ (HoldsOfNone (IsWordEnd words Ends rest)
    × (((dead : ℕ) × (IsLeast (IsDeadEnd words rest) dead × IsLeast (λ n. Ends n × (dead ≤ n)) cut))
    ⊎ (HoldsOfNone (IsDeadEnd words rest) × (cut ≡ length rest))))

-- the cuts of a piece that come after one of them: each is the first cut of what is left, with the ends of the piece's
-- clusters, and the last is the piece's end
abbrev pub AreCutsAfter : Words → (ends piece : List ℕ) → ℕ → List ℕ → Type 0
AreCutsAfter words ends piece from [] = from ≡ length piece
AreCutsAfter words ends piece from (cut ∷ cuts) =
    (from < length piece)
    × ((taken : ℕ) × ((cut ≡ from + taken) × IsNextCut words (λ n. Contains ends (from + n)) (drop from piece) taken))
    × AreCutsAfter words ends piece cut cuts

-- the cuts of a piece by a set of words, where its clusters are those of the piece alone
abbrev pub AreDictionaryCuts : Words → Clusters → (piece cuts : List ℕ) → Type 0
AreDictionaryCuts words clusters piece cuts = AreCutsAfter words (offsets (clusters piece)) piece 0 cuts

-- are the code points that were read a word
abbrev pub is_word : Words → List ℕ → Bool
is_word words read = has_empty (tails read words)

-- does a longer word begin with them
abbrev pub goes_on : Words → List ℕ → Bool
goes_on words read = has_nonempty (tails read words)

-- is this one of the ends
unfoldable pub is_end : List ℕ → ℕ → Bool
is_end [] n = false
is_end (end ∷ ends) n = (end == n) || is_end ends n

-- the first end that isn't before n
unfoldable pub end_from : List ℕ → ℕ → ℕ
end_from [] n = n
end_from (end ∷ ends) n = if nat_le n end then end else end_from ends n

-- how many code points the longest word has that stands at the beginning, has one to n of them, and ends with a cluster
unfoldable pub longest_word : Words → (ends rest : List ℕ) → ℕ → Option ℕ
longest_word words ends rest zero = None
longest_word words ends rest (suc n) =
    if is_word words (take (suc n) rest) && is_end ends (suc n) then Some (suc n) else longest_word words ends rest n

-- how many code points are read, one after the other, until no longer word begins with them, or all are
unfoldable pub read_from : Words → List ℕ → (read left : ℕ) → ℕ
read_from words rest read zero = read
read_from words rest read (suc left) =
    if goes_on words (take (suc read) rest) then read_from words rest (suc read) left else suc read

unfoldable pub read_all : Words → List ℕ → ℕ
read_all words rest = read_from words rest 0 (length rest)

-- the first cut, as a function of the words, the ends of clusters and the code points
unfoldable pub first_cut : Words → (ends rest : List ℕ) → ℕ
first_cut words ends rest =
    let read = read_all words rest in
    unwrap_or (longest_word words ends rest read) (end_from ends read)

-- the first cut of what is left, where the clusters are those of its code points alone
abbrev pub next_cut : Words → Clusters → List ℕ → ℕ
next_cut words clusters rest = first_cut words (offsets (clusters rest)) rest

-- what is left of a piece up to its first cut, with this cut
abbrev pub cut_stretch : Words → Clusters → List ℕ → Stretch
cut_stretch words clusters rest =
    let taken = next_cut words clusters rest in
    record { extent = taken; boundaries = boundary taken 0 ∷ [] }

-- the cuts of a piece by a set of words, as a function
abbrev pub dictionary_cuts : Words → Clusters → Cuts
dictionary_cuts words clusters piece = offsets (later_boundaries (cut_stretch words clusters) piece)

-- a piece is cut by the words of its script, or, where it has none, at its end alone
abbrev pub by_words : Option Words → Clusters → ComplexScript → Cuts
by_words (Some words) clusters script piece = dictionary_cuts words clusters piece
by_words None clusters script piece = at_end script piece

abbrev pub by_dictionaries : (ComplexScript → Option Words) → Clusters → PieceCuts
by_dictionaries dictionaries clusters script piece = by_words (dictionaries script) clusters script piece

-- Small sets of words, and clusters that are easily told.

-- U+0301 and U+0E34 belong to the cluster before them
abbrev pub extends : ℕ → Bool
extends code_point = (code_point == 0x0301) || (code_point == 0x0E34)

abbrev pub small_cluster : List ℕ → Stretch
small_cluster [] = record { extent = 0; boundaries = [] }
small_cluster (first ∷ rest) =
    let extent = 1 + prefix_len extends rest in
    record { extent = extent; boundaries = boundary extent 0 ∷ [] }

abbrev pub small_clusters : Clusters
small_clusters code_points = list_boundaries small_cluster code_points

abbrev pub thai_word : List ℕ
thai_word = 0x0E01 ∷ 0x0E01 ∷ []

abbrev pub thai_words : Words
thai_words = (0x0E01 ∷ 0x0E02 ∷ 0x0E04 ∷ []) ∷ []

-- エディ, エディター and エディターエディション
abbrev pub edition_words : Words
edition_words =
    (0x30A8 ∷ 0x30C7 ∷ 0x30A3 ∷ [])
    ∷ (0x30A8 ∷ 0x30C7 ∷ 0x30A3 ∷ 0x30BF ∷ 0x30FC ∷ [])
    ∷ (0x30A8 ∷ 0x30C7 ∷ 0x30A3 ∷ 0x30BF ∷ 0x30FC ∷ 0x30A8 ∷ 0x30C7 ∷ 0x30A3 ∷ 0x30B7 ∷ 0x30E7 ∷ 0x30F3 ∷ [])
    ∷ []

abbrev pub replacement_word : List ℕ
replacement_word = 0xFFFD ∷ []
