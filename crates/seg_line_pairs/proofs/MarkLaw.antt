-- No boundary of lines but the first stands before a mark, except after what bears none.
use Rattle.std.proofs.Common.{◌≡◌, ℕ, zero, suc, ◌≤◌, true, false, List, [], ◌∷◌, length, take, drop, refl, sym, ap, ◌∙◌, subst, arith}
use Rattle.std.proofs.lemmas.Bool.{eqb-true}
use Rattle.std.proofs.lemmas.List.{length-drop}
use Rattle.std.proofs.lemmas.List.Folds.{length-prefix_len}
use Rattle.seg_text.specs.Boundaries.{shift_all, Cuts, later_boundaries}
use Rattle.seg_text.proofs.Stretches.{later-nil, later-next}
use Rattle.seg_pairs.specs.Verdict.{Verdict, TakesOf}
use Rattle.seg_pairs.specs.Verdict.Verdict.{BreakAfter, GoAfter, RunBegins}
use Rattle.seg_line_pairs.specs.declared.engines.LineEngine.TheVariants.{Classic}
use Rattle.seg_line_pairs.specs.LineRules.{TableRules, is_complex_point, is_complex_class}
use Rattle.seg_line_pairs.specs.LineUnits.{CountedUnit, is_mark, units_of, extent_of}
use Rattle.seg_line_pairs.specs.LineVerdict.{unit_verdict}
use Rattle.seg_line_pairs.specs.LineBoundaries.{in_code_points, line_verdict, complex_length, line_stretch_of, line_stretch, line_boundaries, KeepsMarks}
use Rattle.seg_line_pairs.proofs.MarkParts.{Parts, AllPart, parts-later, all-later, all-append, run-part, keeps-later}
use Rattle.seg_line_pairs.proofs.UnitLists.{units, first-unit, extent-first, extent-none}
use Rattle.seg_line_pairs.proofs.LineStretches.{StandInside, line-forward, line-going, line-run, run-two}

module _ (rules : TableRules Classic) where
  extent-zero : (counted : List CountedUnit) → extent_of zero counted ≡ 0
  unfolding extent_of
  extent-zero counted = refl

  -- what stands after a unit parts, where the others that are taken have no code points
  part-alone : (code_point : ℕ) (code_points : List ℕ) (n : ℕ)
      → extent_of n (units rules (drop (first-unit rules code_point code_points).marks code_points)) ≡ 0
      → Parts rules (code_point ∷ code_points) (extent_of (suc n) (units rules (code_point ∷ code_points)))
  part-alone code_point code_points n none =
      let first = first-unit rules code_point code_points in
      let sum = extent-first rules n code_point code_points first in
      let end : suc first.marks ≡ extent_of (suc n) (units rules (code_point ∷ code_points)) = omega (arith, sum, none) in
      subst (Parts rules (code_point ∷ code_points)) end first.parts

  -- what stands after some units parts
  units-part : (n : ℕ) (code_point : ℕ) (code_points : List ℕ) → Parts rules (code_point ∷ code_points) (extent_of (suc n) (units rules (code_point ∷ code_points)))
  units-part zero code_point code_points =
      let first = first-unit rules code_point code_points in
      part-alone code_point code_points zero (extent-zero (units rules (drop first.marks code_points)))
  units-part (suc n) code_point code_points =
      on (drop (first-unit rules code_point code_points).marks code_points) refl (λ second others. units-part n second others)
    where
      on : (rest : List ℕ) → drop (first-unit rules code_point code_points).marks code_points ≡ rest
          → ((second : ℕ) (others : List ℕ) → Parts rules (second ∷ others) (extent_of (suc n) (units rules (second ∷ others))))
          → Parts rules (code_point ∷ code_points) (extent_of (suc (suc n)) (units rules (code_point ∷ code_points)))
      on [] is later =
          part-alone code_point code_points (suc n) (ap (λ (rest : List ℕ). extent_of (suc n) (units rules rest)) is ∙ extent-none rules (suc n))
      on (second ∷ others) is later =
          let first = first-unit rules code_point code_points in
          let sum = extent-first rules (suc n) code_point code_points first in
          subst (Parts rules (code_point ∷ code_points)) (sym sum)
          (parts-later rules (suc first.marks) (code_point ∷ code_points) (extent_of (suc n) (units rules (drop first.marks code_points)))
          (subst (λ (rest : List ℕ). Parts rules rest (extent_of (suc n) (units rules rest))) (sym is) (later second others)))

  stretch-parts : (cuts : Cuts) → StandInside cuts → ((class : ℕ) → is_complex_class rules class ≡ true → is_mark Classic class ≡ false) → (code_point : ℕ) (code_points : List ℕ)
      → AllPart rules (code_point ∷ code_points) (line_stretch cuts rules (code_point ∷ code_points)).boundaries
  unfolding line_verdict
  stretch-parts cuts stand apart code_point code_points =
      on (unit_verdict rules (units_of us)) refl (line-forward rules code_point code_points)
    where
      us : List CountedUnit
      us = units rules (code_point ∷ code_points)

      on : (w : Verdict) → unit_verdict rules (units_of us) ≡ w → TakesOf (length (code_point ∷ code_points)) (in_code_points us w)
          → AllPart rules (code_point ∷ code_points) (line_stretch_of cuts rules (code_point ∷ code_points) (in_code_points us w)).boundaries
      on (BreakAfter zero class) is takes = absurd (omega (arith, takes.0, extent-zero us))
      on (BreakAfter (suc n) class) is takes = (units-part n code_point code_points, tt)
      on (GoAfter n) is takes = tt
      on RunBegins is takes =
          let n : ℕ = complex_length rules (code_point ∷ code_points) in
          let two = run-two rules code_point code_points (line-run rules code_point code_points (ap (in_code_points us) is)) in
          let long = length-prefix_len (is_complex_point rules) (code_point ∷ code_points) in
          run-part rules cuts stand apart (code_point ∷ code_points) (take n (code_point ∷ code_points)) (omega (arith, long, two)) long

  later-parts : (cuts : Cuts) → StandInside cuts → ((class : ℕ) → is_complex_class rules class ≡ true → is_mark Classic class ≡ false) → (most : ℕ) (code_points : List ℕ) → length code_points ≤ most
      → AllPart rules code_points (later_boundaries (line_stretch cuts rules) code_points)
  later-parts cuts stand apart most [] bound = rw (later-nil (line_stretch cuts rules)) tt
  later-parts cuts stand apart zero (code_point ∷ code_points) bound = absurd (omega arith)
  later-parts cuts stand apart (suc most) (code_point ∷ code_points) bound =
      let n : ℕ = (line_stretch cuts rules (code_point ∷ code_points)).extent in
      let going = line-going rules cuts in
      let rest : List ℕ = drop n (code_point ∷ code_points) in
      let fewer : length rest ≤ most = omega (arith, bound, length-drop n (code_point ∷ code_points), going code_point code_points) in
      rw (later-next (line_stretch cuts rules) going code_point code_points)
      (all-append rules (code_point ∷ code_points) (line_stretch cuts rules (code_point ∷ code_points)).boundaries (shift_all n (later_boundaries (line_stretch cuts rules) rest))
      (stretch-parts cuts stand apart code_point code_points)
      (all-later rules n (code_point ∷ code_points) (later_boundaries (line_stretch cuts rules) rest) (later-parts cuts stand apart most rest fewer)))

  complex-apart : is_mark Classic rules.table.complex_property ≡ false → (class : ℕ) → is_complex_class rules class ≡ true → is_mark Classic class ≡ false
  complex-apart apart class is = ap (is_mark Classic) (eqb-true class rules.table.complex_property is) ∙ apart

  pub line-keeps : (cuts : Cuts) → StandInside cuts → is_mark Classic rules.table.complex_property ≡ false → (code_points : List ℕ)
      → KeepsMarks rules code_points (line_boundaries cuts rules code_points)
  line-keeps cuts stand apart code_points k before mark (zero, less, is) = absurd (omega (arith, is))
  line-keeps cuts stand apart code_points k before mark (suc j, less, is) =
      keeps-later rules code_points (later_boundaries (line_stretch cuts rules) code_points) (later-parts cuts stand (complex-apart apart) (length code_points) code_points (omega arith))
      k before mark (j, omega (arith, less), is)
