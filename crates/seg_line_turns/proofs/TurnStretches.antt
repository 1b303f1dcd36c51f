-- The turns of a list: what each takes, that they have one list of boundaries, and that these rise from the list's start to its end.
use Rattle.std.proofs.Common.{◌≡◌, ℕ, zero, suc, ◌+◌, ◌<◌, ◌≤◌, Bool, true, false, List, [], ◌∷◌, ◌++◌, length, drop, refl, sym, ap, ◌∙◌, inl, inr, arith, zero-add}
use Rattle.std.proofs.lemmas.List.{length-drop}
use Rattle.std.proofs.lemmas.List.Folds.{length-prefix_len}
use Rattle.std.proofs.lemmas.List.Sums.{prefix_len-le-length}
use Rattle.seg_text.specs.declared.boundary.Boundary.{Boundary}
use Rattle.seg_text.specs.Boundaries.{RisesTo, IsCover, shift_all, start, Cuts, with_status, Stretch, IsWithin}
use Rattle.seg_text.proofs.Places.{shifted-none, shifted-twice, shifted-append}
use Rattle.seg_text.proofs.Covers.{rises-le}
use Rattle.seg_line_pairs.specs.LineRules.{TableRules, is_complex_point}
use Rattle.seg_line_pairs.specs.LineBoundaries.{complex_length}
use Rattle.seg_line_pairs.specs.declared.engines.LineEngine.TheVariants.{Seventeen}
use Rattle.seg_line_pairs.proofs.LineStretches.{StandInside}
use Rattle.seg_line_turns.specs.TurnBoundaries.{TurnStretch, run_of, turn_stretch_of, turn_stretch, AreTurns, turns_within, later_turns, turn_boundaries, HasOneTurnList}
use Rattle.seg_line_turns.specs.Turns.{Turn, turn, first_unit}
use Rattle.seg_line_turns.specs.Turns.Turn.{BreakAt, GoTo, RunAt}
use Rattle.seg_line_turns.proofs.TurnForward.{IsTurnOf, first-forward}

-- what a turn takes, whatever it finds of openings
abbrev plain_stretch : TurnStretch → Stretch
plain_stretch s = record { extent = s.extent; boundaries = s.boundaries }

module _ (cuts : Cuts) (rules : TableRules Seventeen) where
  some-of : (whole : List ℕ) (found : Turn) → IsTurnOf rules whole found → 0 < (turn_stretch_of cuts rules whole found).extent
  some-of whole (BreakAt place resume) (some, most, inside) = omega (arith, some, most)
  some-of whole (GoTo place opened) (some, inside) = some
  some-of whole (RunAt first opened) two = omega (arith, two)

  pub going : (starts opened : Bool) (x : ℕ) (xs : List ℕ) → 0 < (turn_stretch cuts rules starts opened x xs).extent
  going starts opened x xs =
      some-of (x ∷ xs) (turn rules opened (first_unit rules starts x) xs) (first-forward rules starts opened x xs)

  fewer : (n most : ℕ) (xs : List ℕ) → 0 < n → length xs ≤ suc most → length (drop n xs) ≤ most
  fewer n most xs some bound = let long = length-drop n xs in omega (arith, long)

  -- more turns than the code points that there are change nothing
  turns-more : (most more : ℕ) (starts opened : Bool) (xs : List ℕ) → length xs ≤ most → length xs ≤ more
      → turns_within cuts rules most starts opened xs ≡ turns_within cuts rules more starts opened xs
  unfolding turns_within
  turns-more zero zero starts opened xs bound other = refl
  turns-more zero (suc more) starts opened [] bound other = refl
  turns-more zero (suc more) starts opened (x ∷ xs) bound other = absurd (omega arith)
  turns-more (suc most) zero starts opened [] bound other = refl
  turns-more (suc most) zero starts opened (x ∷ xs) bound other = absurd (omega arith)
  turns-more (suc most) (suc more) starts opened [] bound other = refl
  turns-more (suc most) (suc more) starts opened (x ∷ xs) bound other =
      let s = turn_stretch cuts rules starts opened x xs in
      ap (λ (later : List Boundary). s.boundaries ++ shift_all s.extent later)
      (turns-more most more false s.opened (drop s.extent (x ∷ xs)) (fewer s.extent most (x ∷ xs) (going starts opened x xs) bound)
      (fewer s.extent more (x ∷ xs) (going starts opened x xs) other))

  pub turns-nil : (starts opened : Bool) → later_turns cuts rules starts opened [] ≡ []
  unfolding later_turns turns_within
  turns-nil starts opened = refl

  -- the boundaries of the first turn, and then those of what is left
  pub turns-next : (starts opened : Bool) (x : ℕ) (xs : List ℕ)
      → let s = turn_stretch cuts rules starts opened x xs in
      later_turns cuts rules starts opened (x ∷ xs)
      ≡ s.boundaries ++ shift_all s.extent (later_turns cuts rules false s.opened (drop s.extent (x ∷ xs)))
  unfolding later_turns turns_within
  turns-next starts opened x xs =
      let s = turn_stretch cuts rules starts opened x xs in
      ap (λ (later : List Boundary). s.boundaries ++ shift_all s.extent later)
      (turns-more (length xs) (length (drop s.extent (x ∷ xs))) false s.opened (drop s.extent (x ∷ xs))
      (fewer s.extent (length xs) (x ∷ xs) (going starts opened x xs) (omega arith)) (omega arith))

  turns-only : (starts opened : Bool) (xs : List ℕ) (stretches : List TurnStretch) (found : List Boundary) → AreTurns cuts rules starts opened xs stretches found
      → found ≡ later_turns cuts rules starts opened xs
  turns-only starts opened [] [] found are = are ∙ sym (turns-nil starts opened)
  turns-only starts opened [] (s ∷ stretches) found are = absurd are
  turns-only starts opened (x ∷ xs) [] found are = absurd are
  turns-only starts opened (x ∷ xs) (s ∷ stretches) found (is, (later, sum, are)) =
      sum ∙ ap (λ (later : List Boundary). s.boundaries ++ shift_all s.extent later) (turns-only false s.opened (drop s.extent (x ∷ xs)) stretches later are)
      ∙ ap (λ (s : TurnStretch). s.boundaries ++ shift_all s.extent (later_turns cuts rules false s.opened (drop s.extent (x ∷ xs)))) (sym is)
      ∙ sym (turns-next starts opened x xs)

  turns-are : (most : ℕ) (starts opened : Bool) (xs : List ℕ) → length xs ≤ most
      → (stretches : List TurnStretch) × AreTurns cuts rules starts opened xs stretches (later_turns cuts rules starts opened xs)
  turns-are most starts opened [] bound = ([], turns-nil starts opened)
  turns-are zero starts opened (x ∷ xs) bound = absurd (omega arith)
  turns-are (suc most) starts opened (x ∷ xs) bound =
      let s = turn_stretch cuts rules starts opened x xs in
      let rest = turns-are most false s.opened (drop s.extent (x ∷ xs)) (fewer s.extent most (x ∷ xs) (going starts opened x xs) bound) in
      (s ∷ rest.0, (refl, (later_turns cuts rules false s.opened (drop s.extent (x ∷ xs)), turns-next starts opened x xs, rest.1)))

  pub one-list : HasOneTurnList cuts rules
  one-list = record {
    exists = λ xs. let turns = turns-are (length xs) true false xs (omega arith) in (turns.0, (later_turns cuts rules true false xs, (turns.1, refl)));
    only = λ xs found are. are.1.1.1 ∙ ap (λ (later : List Boundary). start ∷ later) (turns-only true false xs are.0 are.1.0 are.1.1.0);
  }

-- cuts of a run inside it rise in what comes before it too
shifted-rises : (first from end : ℕ) (found : List Boundary) → RisesTo from found end → RisesTo (first + from) (shift_all first found) (first + end)
shifted-rises first from end [] rises = ap (λ n. first + n) rises
shifted-rises first from end (boundary ∷ found) rises = (omega (arith, rises.0), shifted-rises first boundary.offset end found rises.1)

from-start : (first end : ℕ) (found : List Boundary) → RisesTo first found end → (to : ℕ) × (to ≤ end) × RisesTo 0 found to
from-start first end [] rises = (0, omega arith, refl)
from-start first end (boundary ∷ found) rises =
    let most = rises-le found boundary.offset end rises.1 in
    (end, omega arith, (omega (arith, rises.0), rises.1))

module _ (cuts : Cuts) (inside : StandInside cuts) (rules : TableRules Seventeen) where
  stands : (run : List ℕ) → 0 < length run → (end : ℕ) × (end < length run) × RisesTo 0 (with_status 0 (cuts run)) end
  stands [] some = absurd (omega (arith, some))
  stands (first ∷ rest) some = inside first rest

  within-of : (whole : List ℕ) (found : Turn) → IsTurnOf rules whole found → IsWithin (length whole) (plain_stretch (turn_stretch_of cuts rules whole found))
  within-of whole (BreakAt place resume) (some, most, inl before) = record {
    some = omega (arith, some, most);
    within = omega (arith, before);
    rises = (place, most, (some, refl));
    last = λ all. absurd (omega (arith, all, before));
  }
  within-of whole (BreakAt place resume) (some, most, inr at) = record {
    some = omega (arith, some, most);
    within = omega (arith, at.1);
    rises = (place, most, (some, refl));
    last = λ all. (some, omega (arith, at.0, at.1));
  }
  within-of whole (GoTo place opened) (some, less) = record {
    some = some;
    within = omega (arith, less);
    rises = (0, omega arith, refl);
    last = λ all. absurd (omega (arith, all, less));
  }
  within-of whole (RunAt first opened) two =
      let rest : List ℕ = drop first whole in
      let n : ℕ = complex_length rules rest in
      let most = prefix_len-le-length (is_complex_point rules) rest in
      let long = length-prefix_len (is_complex_point rules) rest in
      let dropped = length-drop first whole in
      let there = stands (run_of rules rest) (omega (arith, long, two)) in
      let shifted = shifted-rises first 0 there.0 (with_status 0 (cuts (run_of rules rest))) there.2 in
      let none : first + 0 ≡ first = omega arith in
      let rises = from-start first (first + there.0) (shift_all first (with_status 0 (cuts (run_of rules rest)))) (rw none at shifted) in
      record {
        some = omega (arith, two);
        within = omega (arith, two, most, dropped);
        rises = (rises.0, omega (arith, rises.1, there.1, long, two), rises.2);
        last = λ all. absurd (omega (arith, all, two, most, dropped));
      }

  turn-within : (starts opened : Bool) (x : ℕ) (xs : List ℕ) → IsWithin (length (x ∷ xs)) (plain_stretch (turn_stretch cuts rules starts opened x xs))
  turn-within starts opened x xs =
      within-of (x ∷ xs) (turn rules opened (first_unit rules starts x) xs) (first-forward rules starts opened x xs)

  rises-one : (boundaries : List Boundary) (from end other : ℕ) → RisesTo from boundaries end → RisesTo from boundaries other → end ≡ other
  rises-one [] from end other rises too = sym rises ∙ too
  rises-one (boundary ∷ boundaries) from end other rises too = rises-one boundaries boundary.offset end other rises.1 too.1

  rises-append : (boundaries others : List Boundary) (before from end to : ℕ) → RisesTo from boundaries end → RisesTo (before + end) others to
      → RisesTo (before + from) (shift_all before boundaries ++ others) to
  rises-append [] others before from end to rises more = rw rises more
  rises-append (boundary ∷ boundaries) others before from end to rises more =
      (omega (arith, rises.0), rises-append boundaries others before boundary.offset end to rises.1 more)

  -- after so many code points the boundaries of these rise to the end, from any offset that isn't after their start
  abbrev AllRise : (starts opened : Bool) → List ℕ → ℕ → Type 0
  AllRise starts opened xs before =
      (from : ℕ) → (xs ≡ [] → from ≡ before) → from ≤ before → RisesTo from (shift_all before (later_turns cuts rules starts opened xs)) (before + length xs)

  stretch-rises : (starts opened : Bool) (x : ℕ) (xs : List ℕ) (before : ℕ)
      → (let s = turn_stretch cuts rules starts opened x xs in AllRise false s.opened (drop s.extent (x ∷ xs)) (before + s.extent)) → AllRise starts opened (x ∷ xs) before
  stretch-rises starts opened x xs before rest from none low =
      rw (turns-next cuts rules starts opened x xs, shifted-append before stretch.boundaries, shifted-twice before stretch.extent, ← whole) (on stretch.boundaries fits.rises fits.last)
    where
      stretch : TurnStretch
      stretch = turn_stretch cuts rules starts opened x xs

      fits : IsWithin (length (x ∷ xs)) (plain_stretch stretch)
      fits = turn-within starts opened x xs

      whole : (before + stretch.extent) + length (drop stretch.extent (x ∷ xs)) ≡ before + length (x ∷ xs)
      whole = omega (arith, length-drop stretch.extent (x ∷ xs), fits.within)

      all : drop stretch.extent (x ∷ xs) ≡ [] → stretch.extent ≡ length (x ∷ xs)
      all empty = omega (arith, ap length empty, length-drop stretch.extent (x ∷ xs), fits.within)

      on : (boundaries : List Boundary) → (end : ℕ) × (end ≤ stretch.extent) × RisesTo 0 boundaries end
          → (stretch.extent ≡ length (x ∷ xs) → RisesTo 0 boundaries stretch.extent)
          → RisesTo from (shift_all before boundaries ++ shift_all (before + stretch.extent) (later_turns cuts rules false stretch.opened (drop stretch.extent (x ∷ xs))))
          ((before + stretch.extent) + length (drop stretch.extent (x ∷ xs)))
      on [] rises last = rest from (λ empty. absurd (omega (arith, last (all empty), fits.some))) (omega arith)
      on (boundary ∷ boundaries) (end, inside, rises) last = (
        omega (arith, rises.0),
        rises-append boundaries _ before boundary.offset end _ rises.1
            (rest (before + end) (λ empty. ap (λ n. before + n) (rises-one boundaries boundary.offset end stretch.extent rises.1 (last (all empty)).1)) (omega arith)),
      )

  rises-within : (most : ℕ) (starts opened : Bool) (xs : List ℕ) (before : ℕ) → length xs ≤ most → AllRise starts opened xs before
  rises-within most starts opened [] before bound = λ from none low. rw (turns-nil cuts rules starts opened) (none refl ∙ omega arith)
  rises-within zero starts opened (x ∷ xs) before bound = absurd (omega arith)
  rises-within (suc most) starts opened (x ∷ xs) before bound =
      let s = turn_stretch cuts rules starts opened x xs in
      let fewer : length (drop s.extent (x ∷ xs)) ≤ most = omega (arith, bound, length-drop s.extent (x ∷ xs), going cuts rules starts opened x xs) in
      stretch-rises starts opened x xs before (rises-within most false s.opened (drop s.extent (x ∷ xs)) (before + s.extent) fewer)

  -- the boundaries rise strictly from the list's start to its end
  pub turns-cover : (xs : List ℕ) → IsCover 0 (length xs) (turn_boundaries cuts rules xs)
  turns-cover xs =
      let rises = rises-within (length xs) true false xs 0 (omega arith) 0 (λ empty. refl) (omega arith) in
      (refl, rw (shifted-none (later_turns cuts rules true false xs), zero-add (length xs)) at rises)
