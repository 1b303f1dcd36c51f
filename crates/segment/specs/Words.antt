-- Words in lists.
use Rattle.std.specs.Prelude.{ℕ, ◌==◌, not, List, filter, length, map}
use Rattle.std.specs.Str.{chars, trim}
use Rattle.std.specs.Str.Lines.{lines}
use Rattle.icu_segmenter.specs.WordSets.{Words}

-- the words of a list: one a line, without the white space around it, unless the line is empty or white space alone
abbrev pub words_in : List ℕ → List (List ℕ)
words_in list = filter (λ word. not (length word == 0)) (map trim (lines list))

-- the words of a list in code points
abbrev pub code_points_in : List ℕ → Words
code_points_in list = map chars (words_in list)
