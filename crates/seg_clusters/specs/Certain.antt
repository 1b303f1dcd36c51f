-- Certain places: a boundary stands there whatever stands around, and a text may be split there.
use Rattle.std.specs.Prelude.{⊤, ◌≡◌, ℕ, ◌+◌, ◌-◌, List, [], ◌∷◌, ◌++◌, drop, filter, length, nat_lt, take, Contains}
use Rattle.seg_text.specs.declared.boundary.Boundary.{Boundary}
use Rattle.seg_text.specs.Boundaries.{offsets, shift_all}
use Rattle.seg_machine.specs.Certain.{IsCertain}
use Rattle.seg_machine.specs.Machine.{symbol_and_script}
use Rattle.seg_clusters.specs.Rules.{Rules}
use Rattle.seg_clusters.specs.Rules.Rules.{ByTable, ByMachine}

-- in each list that has the three code points one after another, a boundary stands between the last two
abbrev pub AlwaysBreaks : (List ℕ → List Boundary) → ℕ → ℕ → ℕ → Type 0
AlwaysBreaks find before one other =
    (earlier later : List ℕ) → Contains (offsets (find (earlier ++ before ∷ one ∷ other ∷ later))) (length earlier + 2)

-- a list without its last element
abbrev pub without_last : {X : Type 0} → List X → List X
without_last xs = take (length xs - 1) xs

-- each such list may be split there: its boundaries are those of what reaches up to the last of the three, without the end, and then those of
-- what begins with it, without the start, so much later
abbrev pub SplitsBetween : (List ℕ → List Boundary) → ℕ → ℕ → ℕ → Type 0
SplitsBetween find before one other =
    (earlier later : List ℕ) → find (earlier ++ before ∷ one ∷ other ∷ later)
    ≡ without_last (find (earlier ++ before ∷ one ∷ other ∷ [])) ++ shift_all (length earlier + 2) (drop 1 (find (other ∷ later)))

-- the boundaries above a place
abbrev pub above : ℕ → List Boundary → List Boundary
above place boundaries = filter (λ (found : Boundary). nat_lt place found.offset) boundaries

-- in each such list, above the place between the last two stand the boundaries that what begins there has alone, so much later
abbrev pub BeginsBetween : (List ℕ → List Boundary) → ℕ → ℕ → ℕ → Type 0
BeginsBetween find before one other =
    (earlier later : List ℕ) → above (length earlier + 2) (find (earlier ++ before ∷ one ∷ other ∷ later))
    ≡ shift_all (length earlier + 2) (drop 1 (find (other ∷ later)))

-- code points with such symbols; of a pair table none are known
abbrev pub AreCertain : Rules → ℕ → ℕ → ℕ → Type 0
AreCertain (ByTable t overriding) before one other = ⊥
AreCertain (ByMachine m) before one other =
    IsCertain m (symbol_and_script m before).0 (symbol_and_script m one).0 (symbol_and_script m other).0

-- places may be certain: a machine finds the boundaries
abbrev pub IsByMachine : Rules → Type 0
IsByMachine (ByTable t overriding) = ⊥
IsByMachine (ByMachine m) = ⊤
