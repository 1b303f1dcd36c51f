-- The words of UAX #29 as those of a segmenter.
use Rattle.std.specs.Prelude.{◌≡◌, ℕ, List, ◌∷◌}
use Rattle.icu_segmenter.specs.Boundaries.{start}
use Rattle.icu_segmenter.specs.WordRules.{WordRules, word_boundaries_by}
use Rattle.icu_segmenter_uax29.specs.Words.{words}
use Rattle.icu_segmenter_uax29.specs.WordTypes.{typed_ends}

-- for every list of code points the boundaries are the start and the ends of its words, each with the word's type as its status
abbrev pub AreWords : WordRules → Type 0
AreWords rules = (code_points : List ℕ) → word_boundaries_by rules code_points ≡ start ∷ typed_ends 0 (words code_points)
