-- Words without line feeds, and words without spaces.
use Rattle.std.specs.Prelude.{◌≡◌, false, ℕ, List, Contains}
use Rattle.seg_data.specs.WordSets.{Words}
use Rattle.seg_segments.specs.Suppression.{is_space}

-- no word has a line feed
abbrev pub AreInLines : Words → Type 0
AreInLines words = (word : List ℕ) → Contains words word → Contains word 0x0A → ⊥

-- a word has no space
abbrev pub IsSpaceless : List ℕ → Type 0
IsSpaceless word = (c : ℕ) → Contains word c → is_space c ≡ false

-- none of these has one
abbrev pub AreSpaceless : Words → Type 0
AreSpaceless words = (word : List ℕ) → Contains words word → IsSpaceless word
