-- The entries of a pair table by a rule for each of them.
use Rattle.std.specs.Prelude.{ℕ, zero, suc, List, [], ◌∷◌, ◌++◌}
use Rattle.seg_pairs.specs.declared.provider.pairs.BreakState.{BreakState}

-- what stands between a class and each of so many
unfoldable pub row : (ℕ → ℕ → BreakState) → ℕ → ℕ → List BreakState
row entry left zero = []
row entry left (suc right) = row entry left right ++ entry left right ∷ []

-- the rows of so many classes, each for as many as the table has
unfoldable pub rows : (ℕ → ℕ → BreakState) → ℕ → ℕ → List BreakState
rows entry count zero = []
rows entry count (suc left) = rows entry count left ++ row entry left count
