-- Boundaries that were given.
use Rattle.std.specs.Prelude.{Bool, if◌then◌else◌, List, [], ◌∷◌}

-- what comes first, unless it was given
abbrev pub first_unless : {X : Type 0} → Bool → X → List X
first_unless started first = if started then [] else first ∷ []
