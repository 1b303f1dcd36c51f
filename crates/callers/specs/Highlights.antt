-- A text as it is shown to one who looked for something.
use Rattle.std.specs.Prelude.{ℕ, if◌then◌else◌, List, [], ◌∷◌, ◌++◌}
use Rattle.std.specs.Str.{bytes_eq}

-- a segment of the text: in brackets where it is what was looked for
abbrev pub shown : List ℕ → List ℕ → List ℕ
shown query segment = if bytes_eq segment query then 0x5B ∷ segment ++ 0x5D ∷ [] else segment
