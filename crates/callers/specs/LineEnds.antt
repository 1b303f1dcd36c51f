-- Where the lines of a text end that is broken into lines of a width.
use Rattle.std.specs.Prelude.{ℕ, ◌-◌, ◌==◌, ◌&&◌, ◌||◌, nat_lt, Bool, false, if◌then◌else◌, List, [], ◌∷◌}
use Rattle.icu_segmenter.specs.Boundary.{Boundary}

-- does a line end at the last boundary that it has reached: where it must, or where the next is beyond the width
abbrev pub ends_there : ℕ → ℕ → ℕ → Bool → ℕ → Bool
ends_there width begin reached must next = nat_lt begin reached && (must || nat_lt width (next - begin))

-- the ends of a line that has begun, and has reached a boundary, and of those after it
abbrev pub ends_after : ℕ → ℕ → ℕ → Bool → List Boundary → List ℕ
ends_after width begin reached must [] = if nat_lt begin reached then reached ∷ [] else []
ends_after width begin reached must (next ∷ boundaries) =
    if ends_there width begin reached must next.offset
    then reached ∷ ends_after width reached next.offset (next.status == 1) boundaries
    else ends_after width begin next.offset (next.status == 1) boundaries

abbrev pub line_ends : ℕ → List Boundary → List ℕ
line_ends width boundaries = ends_after width 0 0 false boundaries
