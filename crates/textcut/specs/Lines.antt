-- Numbers as lines: the decimal digits of each, and a line feed.
use Rattle.std.specs.Prelude.{ℕ, List, [], ◌∷◌, ◌++◌, decimal}
use Rattle.std.specs.List.{flat_map}

abbrev pub line_of : ℕ → List ℕ
line_of number = decimal number ++ 10 ∷ []

abbrev pub lines_of : List ℕ → List ℕ
lines_of numbers = flat_map line_of numbers
