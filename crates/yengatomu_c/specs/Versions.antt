-- The versions of Unicode's data by kind.
use Rattle.std.specs.Prelude.{ℕ, [], ◌∷◌, slice_index}

-- clusters, words, sentences and lines
abbrev pub unicode_version : ℕ → ℕ
unicode_version kind = slice_index (180000 ∷ 180000 ∷ 180000 ∷ 180000 ∷ []) kind
