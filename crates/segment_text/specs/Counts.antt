-- What is written of a text of which segments are counted.
use Rattle.std.specs.Prelude.{ℕ, Bool, Option, Some, None, List, [], ◌∷◌, ◌++◌, if◌then◌else◌, decimal}
use Rattle.segment_text.specs.declared.counts.AskedCounts.{AskedCounts}
use Rattle.segment_text.specs.declared.size.Size.{Size}

-- the end of a line: a name after a space, if there is one, and a line feed
abbrev pub line_end : Option (List ℕ) → List ℕ
line_end None = 10 ∷ []
line_end (Some name) = 32 ∷ name ++ 10 ∷ []

-- a number beside another, if it is asked for
abbrev pub beside : Bool → ℕ → List ℕ
beside is_asked count = if is_asked then 32 ∷ decimal count else []

-- how many segments there are, and the line feeds and bytes of the text that are asked for
abbrev pub counts : AskedCounts → ℕ → Size → List ℕ
counts asked segments size = decimal segments ++ beside asked.lines size.lines ++ beside asked.bytes size.bytes

-- and the name of what they were counted in, if it has one
abbrev pub count_line : AskedCounts → ℕ → Size → Option (List ℕ) → List ℕ
count_line asked segments size name = counts asked segments size ++ line_end name
