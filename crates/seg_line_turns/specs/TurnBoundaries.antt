-- Lines by the engine 17: their boundaries, and where none stands before a mark.
use Rattle.std.specs.Prelude.{◌≡◌, ℕ, zero, suc, ◌+◌, ◌-◌, ◌&&◌, Bool, true, false, List, [], ◌∷◌, ◌++◌, length, drop, take, ◌<◌}
use Rattle.seg_text.specs.declared.boundary.Boundary.{Boundary}
use Rattle.seg_text.specs.Boundaries.{boundary, boundaries_in, start, shift_all, Cuts, with_status}
use Rattle.seg_text.specs.Items.{Text}
use Rattle.seg_pairs.specs.declared.provider.pairs.BreakState.TheVariants.{Index}
use Rattle.seg_pairs.specs.PairTable.{PairTable, entry_of}
use Rattle.seg_line_pairs.specs.LineRules.{TableRules}
use Rattle.seg_line_pairs.specs.LineBoundaries.{inside, complex_length}
use Rattle.seg_line_pairs.specs.LineUnits.{bears_none}
use Rattle.seg_line_pairs.specs.declared.engines.LineEngine.TheVariants.{Seventeen}
use Rattle.seg_line_turns.specs.Turns.{Turn, turn, first_unit}
use Rattle.seg_line_turns.specs.Turns.Turn.{BreakAt, GoTo, RunAt}

-- The boundaries of lines by the engine 17 in a list of code points, turn by turn.

-- so many code points are taken, with these boundaries in them; and whether a space after an opening was met since the last boundary
pub record TurnStretch : Type 0 where
  pub extent : ℕ
  pub boundaries : List Boundary
  pub opened : Bool

-- a run alone, and its cuts
abbrev pub run_of : TableRules Seventeen → List ℕ → List ℕ
run_of rules code_points = take (complex_length rules code_points) code_points

abbrev pub has_none : List ℕ → Bool
has_none [] = true
has_none (cut ∷ cuts) = false

-- what a turn takes of these code points. A run is cut in some way, and takes all its code points but the last, which the next turn
-- begins with
abbrev pub turn_stretch_of : Cuts → TableRules Seventeen → List ℕ → Turn → TurnStretch
turn_stretch_of cuts rules code_points (BreakAt place resume) = record { extent = resume; boundaries = boundary place 0 ∷ []; opened = false }
turn_stretch_of cuts rules code_points (GoTo place opened) = record { extent = place; boundaries = []; opened = opened }
turn_stretch_of cuts rules code_points (RunAt first opened) =
    let inside = cuts (run_of rules (drop first code_points)) in
    record {
      extent = first + (complex_length rules (drop first code_points) - 1);
      boundaries = shift_all first (with_status 0 inside);
      opened = has_none inside && opened;
    }

-- the first turn of some code points, of which the first starts the text or not
abbrev pub turn_stretch : Cuts → TableRules Seventeen → (starts opened : Bool) → ℕ → List ℕ → TurnStretch
turn_stretch cuts rules starts opened code_point code_points =
    turn_stretch_of cuts rules (code_point ∷ code_points) (turn rules opened (first_unit rules starts code_point) code_points)

-- these are the turns of a list, each the first of what is left, and these their boundaries
abbrev pub AreTurns : Cuts → TableRules Seventeen → (starts opened : Bool) → List ℕ → List TurnStretch → List Boundary → Type 0
AreTurns cuts rules starts opened [] [] found = found ≡ []
AreTurns cuts rules starts opened (code_point ∷ code_points) (stretch ∷ stretches) found =
    (turn_stretch cuts rules starts opened code_point code_points ≡ stretch)
    × ((later : List Boundary) × (found ≡ stretch.boundaries ++ shift_all stretch.extent later)
    × AreTurns cuts rules false stretch.opened (drop stretch.extent (code_point ∷ code_points)) stretches later)
AreTurns cuts rules starts opened [] (stretch ∷ stretches) found = ⊥
AreTurns cuts rules starts opened (code_point ∷ code_points) [] found = ⊥

-- the boundaries as a function, through so many turns at most
unfoldable pub turns_within : Cuts → TableRules Seventeen → ℕ → (starts opened : Bool) → List ℕ → List Boundary
turns_within cuts rules zero starts opened code_points = []
turns_within cuts rules (suc most) starts opened [] = []
turns_within cuts rules (suc most) starts opened (code_point ∷ code_points) =
    let stretch = turn_stretch cuts rules starts opened code_point code_points in
    stretch.boundaries
    ++ shift_all stretch.extent (turns_within cuts rules most false stretch.opened (drop stretch.extent (code_point ∷ code_points)))

unfoldable pub later_turns : Cuts → TableRules Seventeen → (starts opened : Bool) → List ℕ → List Boundary
later_turns cuts rules starts opened code_points = turns_within cuts rules (length code_points) starts opened code_points

-- all boundaries: that at the start, and then those of the turns
abbrev pub turn_boundaries : Cuts → TableRules Seventeen → List ℕ → List Boundary
turn_boundaries cuts rules code_points = start ∷ later_turns cuts rules true false code_points

-- the boundaries of a text: those of its code points, at the places of its items
abbrev pub turn_boundaries_of : Cuts → TableRules Seventeen → Text → List Boundary
turn_boundaries_of cuts rules text = boundaries_in (turn_boundaries (inside cuts) rules) text

-- these are the boundaries: one at the start, and then those of some turns, of which the first starts the text
abbrev pub AreTurnBoundaries : Cuts → TableRules Seventeen → List ℕ → List Boundary → Type 0
AreTurnBoundaries cuts rules code_points found =
    (stretches : List TurnStretch) × ((later : List Boundary) × (AreTurns cuts rules true false code_points stretches later × (found ≡ start ∷ later)))

-- each list has such boundaries, and no others
pub record HasOneTurnList (cuts : Cuts) (rules : TableRules Seventeen) : Type 0 where
  pub exists : (code_points : List ℕ) → AreTurnBoundaries cuts rules code_points (turn_boundaries cuts rules code_points)
  pub only : (code_points : List ℕ) (found : List Boundary) → AreTurnBoundaries cuts rules code_points found → found ≡ turn_boundaries cuts rules code_points

-- at the start of a text no class is read as one that bears no marks
abbrev pub StartsBear : PairTable → Type 0
StartsBear t = (class state : ℕ) → class < t.property_count → entry_of t t.sot_property class ≡ Index state → bears_none Seventeen state ≡ false
