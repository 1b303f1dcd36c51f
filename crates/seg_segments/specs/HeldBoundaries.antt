-- Boundaries that were found many at a time, of which some weren't given yet.
use Rattle.std.specs.Prelude.{ℕ, ◌-◌, List, drop, map, take}
use Rattle.std.specs.List.{zip}
use Rattle.seg_text.specs.declared.boundary.Boundary.{Boundary}
use Rattle.seg_text.specs.Boundaries.{boundary}

-- the boundaries at these places, with these statuses
abbrev pub boundaries_at : List ℕ → List ℕ → List Boundary
boundaries_at places statuses = map (λ (found : ℕ × ℕ). boundary found.0 found.1) (zip places statuses)

-- numbers from one index up to another
abbrev pub held_from : ℕ → ℕ → List ℕ → List ℕ
held_from next end found = take (end - next) (drop next found)

-- the boundaries from one index up to another
abbrev pub held_boundaries : ℕ → ℕ → List ℕ → List ℕ → List Boundary
held_boundaries next end places statuses = boundaries_at (held_from next end places) (held_from next end statuses)
