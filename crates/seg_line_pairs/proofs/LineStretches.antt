-- The stretches of lines: what each takes, and where its boundaries stand.
use Rattle.std.proofs.Common.{◌≡◌, ℕ, suc, ◌<◌, true, List, [], ◌∷◌, length, take, drop, refl, sym, ap, ◌∙◌, subst, arith}
use Rattle.std.proofs.lemmas.List.{length-map}
use Rattle.std.proofs.lemmas.List.Folds.{length-prefix_len}
use Rattle.std.proofs.lemmas.List.Sums.{prefix_len-le-length}
use Rattle.seg_text.specs.Boundaries.{RisesTo, Cuts, with_status, HasProgress, IsWithin}
use Rattle.seg_pairs.specs.Verdict.{Verdict, TakesOf, IsForward}
use Rattle.seg_pairs.specs.Verdict.Verdict.{BreakAfter, GoAfter, RunBegins}
use Rattle.seg_line_pairs.specs.declared.engines.LineEngine.{LineEngine}
use Rattle.seg_line_pairs.specs.LineRules.{TableRules, line_class, is_complex_point, is_complex_class}
use Rattle.seg_line_pairs.specs.LineUnits.{LineUnit, CountedUnit, units_of}
use Rattle.seg_line_pairs.specs.LineVerdict.{unit_verdict}
use Rattle.seg_line_pairs.specs.LineBoundaries.{in_code_points, line_verdict, complex_length, line_stretch_of, line_stretch}
use Rattle.seg_line_pairs.proofs.UnitLists.{first-unit, units, no-units, reach}
use Rattle.seg_line_pairs.proofs.UnitVerdicts.{unit-forward, unit-run}

-- cuts stand strictly inside
abbrev pub StandInside : Cuts → Type 0
StandInside cuts =
    (first : ℕ) (rest : List ℕ)
    → (end : ℕ) × (end < length (first ∷ rest)) × RisesTo 0 (with_status 0 (cuts (first ∷ rest))) end

module _ {engine : LineEngine} (rules : TableRules engine) where
  takes-units : (us later : List CountedUnit) (head : CountedUnit) → us ≡ head ∷ later → TakesOf (length us) (unit_verdict rules (units_of us))
  takes-units us later head is =
      let Takes : List CountedUnit → Type 0 = λ us. TakesOf (length us) (unit_verdict rules (units_of us)) in
      subst Takes (sym is)
      (subst (λ n. TakesOf (suc n) (unit_verdict rules (head.unit ∷ units_of later))) (length-map later (λ (one : CountedUnit). one.unit))
      (unit-forward rules head.unit (units_of later)))

  takes-points : (code_points : List ℕ) (w : Verdict) → 0 < length code_points → TakesOf (length (units rules code_points)) w
      → TakesOf (length code_points) (in_code_points (units rules code_points) w)
  takes-points code_points (BreakAfter n class) there takes =
      let r = reach rules n code_points in
      (r.some takes.0 there, r.within)
  takes-points code_points (GoAfter n) there takes =
      let r = reach rules n code_points in
      (r.some takes.0 there, r.fewer takes.1)
  takes-points code_points RunBegins there takes = tt

  pub line-forward : IsForward (line_verdict rules)
  unfolding line_verdict
  line-forward code_point code_points =
      let first = first-unit rules code_point code_points in
      let us = units rules (code_point ∷ code_points) in
      takes-points (code_point ∷ code_points) (unit_verdict rules (units_of us)) (omega arith) (takes-units us _ _ first.is)

  -- a run begins with two complex code points
  pub record TwoComplex (code_point : ℕ) (code_points : List ℕ) : Type 0 where
    pub second : ℕ
    pub others : List ℕ
    pub two : code_points ≡ second ∷ others
    pub first_complex : is_complex_point rules code_point ≡ true
    pub second_complex : is_complex_point rules second ≡ true

  run-units : (us : List CountedUnit) (w : Verdict) → in_code_points us w ≡ RunBegins → w ≡ RunBegins
  run-units us (BreakAfter n class) is = cc
  run-units us (GoAfter n) is = cc
  run-units us RunBegins is = refl

  second-unit : (code_points : List ℕ) (right : LineUnit) (after : List LineUnit) → units_of (units rules code_points) ≡ right ∷ after
      → is_complex_class rules right.class ≡ true → (second : ℕ) × (others : List ℕ) × (code_points ≡ second ∷ others) × (is_complex_point rules second ≡ true)
  second-unit [] right after is complex = absurd (none (sym (ap units_of (no-units rules)) ∙ is))
    where
      none : [] ≡ right ∷ after → ⊥
      none is = cc
  second-unit (second ∷ others) right after is complex =
      let first = first-unit rules second others in
      let same : first.unit ≡ right = ap head (sym (ap units_of first.is) ∙ is) in
      let class : line_class rules second ≡ right.class = sym first.class ∙ ap (λ (unit : LineUnit). unit.class) same in
      (second, others, refl, ap (is_complex_class rules) class ∙ complex)
    where
      head : List LineUnit → LineUnit
      head [] = right
      head (unit ∷ more) = unit

  pub line-run : (code_point : ℕ) (code_points : List ℕ) → line_verdict rules (code_point ∷ code_points) ≡ RunBegins → TwoComplex code_point code_points
  unfolding line_verdict
  line-run code_point code_points is =
      let first = first-unit rules code_point code_points in
      let us = units rules (code_point ∷ code_points) in
      let whole = run-units us (unit_verdict rules (units_of us)) is in
      let begins = unit-run rules first.unit (units_of (units rules (drop first.marks code_points))) (sym (ap (λ (us : List CountedUnit). unit_verdict rules (units_of us)) first.is) ∙ whole) in
      let none : first.marks ≡ 0 = first.single begins.left_single in
      let found = second-unit code_points begins.right begins.after (ap (λ n. units_of (units rules (drop n code_points))) (sym none) ∙ begins.two) begins.right_complex in
      record {
        second = found.0;
        others = found.1;
        two = found.2;
        first_complex = ap (is_complex_class rules) (sym first.class) ∙ begins.left_complex;
        second_complex = found.3;
      }

  pub run-two : (code_point : ℕ) (code_points : List ℕ) → TwoComplex code_point code_points → 1 < complex_length rules (code_point ∷ code_points)
  run-two code_point code_points two =
      rw (two.two, two.first_complex, two.second_complex) (omega arith)

  pub line-going : (cuts : Cuts) → HasProgress (line_stretch cuts rules)
  line-going cuts = λ code_point code_points. on code_point code_points (line_verdict rules (code_point ∷ code_points)) refl (line-forward code_point code_points)
    where
      on : (code_point : ℕ) (code_points : List ℕ) (w : Verdict) → line_verdict rules (code_point ∷ code_points) ≡ w → TakesOf (length (code_point ∷ code_points)) w
          → 0 < (line_stretch_of cuts rules (code_point ∷ code_points) w).extent
      on code_point code_points (BreakAfter n class) is takes = takes.0
      on code_point code_points (GoAfter n) is takes = takes.0
      on code_point code_points RunBegins is takes =
          let two = run-two code_point code_points (line-run code_point code_points is) in
          omega (arith, two)

  pub line-within : (cuts : Cuts) → StandInside cuts → (code_point : ℕ) (code_points : List ℕ)
      → IsWithin (length (code_point ∷ code_points)) (line_stretch cuts rules (code_point ∷ code_points))
  line-within cuts inside code_point code_points =
      on (line_verdict rules (code_point ∷ code_points)) refl (line-forward code_point code_points)
    where
      on : (w : Verdict) → line_verdict rules (code_point ∷ code_points) ≡ w → TakesOf (length (code_point ∷ code_points)) w
          → IsWithin (length (code_point ∷ code_points)) (line_stretch_of cuts rules (code_point ∷ code_points) w)
      on (BreakAfter n class) is takes = record { some = takes.0; within = takes.1; rises = (n, omega arith, (takes.0, refl)); last = λ all. (takes.0, refl) }
      on (GoAfter n) is takes = record { some = takes.0; within = omega (arith, takes.1); rises = (0, omega arith, refl); last = λ all. absurd (omega (arith, all, takes.1)) }
      on RunBegins is takes =
          let n : ℕ = complex_length rules (code_point ∷ code_points) in
          let two = run-two code_point code_points (line-run code_point code_points is) in
          let most = prefix_len-le-length (is_complex_point rules) (code_point ∷ code_points) in
          let long = length-prefix_len (is_complex_point rules) (code_point ∷ code_points) in
          let there = stands (take n (code_point ∷ code_points)) (omega (arith, long, two)) in
          record {
            some = omega (arith, two);
            within = omega (arith, most);
            rises = (there.0, omega (arith, there.1, long), there.2);
            last = λ all. absurd (omega (arith, all, most, two));
          }
        where
          stands : (run : List ℕ) → 0 < length run → (end : ℕ) × (end < length run) × RisesTo 0 (with_status 0 (cuts run)) end
          stands [] some = absurd (omega (arith, some))
          stands (first ∷ rest) some = inside first rest
