-- Lines that are gathered, and then written.
use Rattle.std.specs.Prelude.{◌≡◌, ℕ, Option, List, ◌++◌}
use Rattle.std.specs.Io.KnownBytes.{Appends}

-- what was written, and then what is gathered, are all the lines
abbrev pub AreGathered : Option (List ℕ) → Option (List ℕ) → List ℕ → List ℕ → Type 0
AreGathered old new lines all = (written : List ℕ) × Appends old new written × (written ++ lines ≡ all)
