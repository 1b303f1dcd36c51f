-- Lines by a pair table have no mandatory break: each stretch, or turn, has boundaries of status 0 alone.
use Rattle.std.proofs.Common.{◌≡◌, ℕ, zero, suc, List, [], ◌∷◌, ◌++◌, drop, length, refl, sym, ap, ◌∙◌}
use Rattle.std.specs.Prelude.{Bool, true, false}
use Rattle.std.proofs.lemmas.Option.{none-some, same_Some}
use Rattle.seg_text.specs.declared.boundary.Boundary.{Boundary}
use Rattle.seg_text.specs.Boundaries.{shift_all, offsets, Cuts, with_status, Stretch, later_boundaries, later_boundaries_within}
use Rattle.seg_pairs.specs.Verdict.{Verdict}
use Rattle.seg_pairs.specs.Verdict.Verdict.{BreakAfter, GoAfter, RunBegins}
use Rattle.seg_clusters.specs.Rules.{boundaries_by}
use Rattle.seg_clusters.specs.Payloads.{Payloads, run_cuts_by}
use Rattle.seg_line_pairs.specs.LineBoundaries.{inside, line_stretch, line_stretch_of, line_verdict}
use Rattle.seg_line_pairs.specs.LineRules.{TableRules}
use Rattle.seg_line_pairs.specs.declared.engines.LineEngine.TheVariants.{Seventeen, Classic}
use Rattle.seg_line_turns.specs.TurnBoundaries.{later_turns, turn_stretch_of, turn_stretch, turns_within}
use Rattle.seg_line_turns.specs.Turns.{Turn, first_unit, turn}
use Rattle.seg_line_turns.specs.Turns.Turn.{BreakAt, GoTo, RunAt}
use Rattle.seg_lines.specs.LineBreaks.{LineFinder, boundaries_with, HasNoMandatoryBreak, IsByPairTable}
use Rattle.seg_lines.specs.LineBreaks.LineFinder.{ByClusters, ByPlaces, ByTable, ByTurns, ByMachine}

AreUnmarked : List Boundary → Type 0
AreUnmarked [] = Unit {0}
AreUnmarked (one ∷ found) = (one.status ≡ 0) × AreUnmarked found

unmarked-each : (found : List Boundary) → AreUnmarked found → HasNoMandatoryBreak found
unfolding AreUnmarked
unmarked-each [] are k one is = absurd (none-some one is)
unmarked-each (first ∷ found) are zero one is = sym (ap (λ (b : Boundary). b.status) (same_Some _ _ is)) ∙ are.0
unmarked-each (first ∷ found) are (suc k) one is = unmarked-each found are.1 k one is

unmarked-at : (places : List ℕ) → AreUnmarked (with_status 0 places)
unfolding AreUnmarked
unmarked-at [] = tt
unmarked-at (place ∷ places) = (refl, unmarked-at places)

unmarked-later : (before : ℕ) (found : List Boundary) → AreUnmarked found → AreUnmarked (shift_all before found)
unfolding AreUnmarked
unmarked-later before [] are = tt
unmarked-later before (one ∷ found) are = (are.0, unmarked-later before found are.1)

unmarked-both : (found others : List Boundary) → AreUnmarked found → AreUnmarked others → AreUnmarked (found ++ others)
unfolding AreUnmarked
unmarked-both [] others are too = too
unmarked-both (one ∷ found) others are too = (are.0, unmarked-both found others are.1 too)

module _ (first : List ℕ → Stretch) (unmarked : (code_points : List ℕ) → AreUnmarked (first code_points).boundaries) where
  within : (most : ℕ) (code_points : List ℕ) → AreUnmarked (later_boundaries_within first most code_points)
  unfolding later_boundaries_within AreUnmarked
  within zero code_points = tt
  within (suc most) [] = tt
  within (suc most) (c ∷ code_points) =
      let stretch = first (c ∷ code_points) in
      let rest = drop stretch.extent (c ∷ code_points) in
      unmarked-both stretch.boundaries (shift_all stretch.extent (later_boundaries_within first most rest)) (unmarked (c ∷ code_points))
      (unmarked-later stretch.extent (later_boundaries_within first most rest) (within most rest))

  later : (code_points : List ℕ) → AreUnmarked (later_boundaries first code_points)
  unfolding later_boundaries
  later code_points = within (length code_points) code_points

by-verdict : (cuts : Cuts) (rules : TableRules Classic) (code_points : List ℕ) (verdict : Verdict) → AreUnmarked (line_stretch_of cuts rules code_points verdict).boundaries
unfolding AreUnmarked
by-verdict cuts rules code_points (BreakAfter taken class) = (refl, tt)
by-verdict cuts rules code_points (GoAfter taken) = tt
by-verdict cuts rules code_points RunBegins = unmarked-at _

in-lines : (cuts : Cuts) (rules : TableRules Classic) (code_points : List ℕ) → AreUnmarked (later_boundaries (line_stretch cuts rules) code_points)
in-lines cuts rules = later (line_stretch cuts rules) (λ code_points. by-verdict cuts rules code_points (line_verdict rules code_points))

by-turn : (cuts : Cuts) (rules : TableRules Seventeen) (code_points : List ℕ) (found : Turn) → AreUnmarked (turn_stretch_of cuts rules code_points found).boundaries
unfolding AreUnmarked
by-turn cuts rules code_points (BreakAt place resume) = (refl, tt)
by-turn cuts rules code_points (GoTo place opened) = tt
by-turn cuts rules code_points (RunAt first opened) = unmarked-later first _ (unmarked-at _)

within-turns : (cuts : Cuts) (rules : TableRules Seventeen) (most : ℕ) (starts opened : Bool) (code_points : List ℕ)
    → AreUnmarked (turns_within cuts rules most starts opened code_points)
unfolding turns_within AreUnmarked
within-turns cuts rules zero starts opened code_points = tt
within-turns cuts rules (suc most) starts opened [] = tt
within-turns cuts rules (suc most) starts opened (c ∷ code_points) =
    let stretch = turn_stretch cuts rules starts opened c code_points in
    let rest = drop stretch.extent (c ∷ code_points) in
    let later = turns_within cuts rules most false stretch.opened rest in
    unmarked-both stretch.boundaries (shift_all stretch.extent later)
    (by-turn cuts rules (c ∷ code_points) (turn rules opened (first_unit rules starts c) code_points))
    (unmarked-later stretch.extent later (within-turns cuts rules most false stretch.opened rest))

in-turns : (cuts : Cuts) (rules : TableRules Seventeen) (code_points : List ℕ) → AreUnmarked (later_turns cuts rules true false code_points)
unfolding later_turns
in-turns cuts rules code_points = within-turns cuts rules (length code_points) true false code_points

pub no-mandatory : (finder : LineFinder) (payloads : Payloads) → IsByPairTable finder → (code_points : List ℕ) → HasNoMandatoryBreak (boundaries_with finder payloads code_points)
unfolding AreUnmarked
no-mandatory ByClusters payloads by code_points = absurd by
no-mandatory (ByMachine m) payloads by code_points = absurd by
no-mandatory ByPlaces payloads by code_points =
    unmarked-each (boundaries_with ByPlaces payloads code_points) (unmarked-at (offsets (boundaries_by payloads.clusters code_points)))
no-mandatory (ByTable rules) payloads by code_points =
    unmarked-each (boundaries_with (ByTable rules) payloads code_points) (refl, in-lines (inside (run_cuts_by payloads)) rules code_points)
no-mandatory (ByTurns rules) payloads by code_points =
    unmarked-each (boundaries_with (ByTurns rules) payloads code_points) (refl, in-turns (inside (run_cuts_by payloads)) rules code_points)
