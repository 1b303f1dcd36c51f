-- Texts of lines without complex code points may be begun anew from any boundary.
use Rattle.std.proofs.Common.{◌≡◌, ℕ, zero, suc, List, [], ◌∷◌, drop, refl, sym, ap, ◌∙◌, inl, inr, arith}
use Rattle.std.specs.Prelude.{slice_get}
use Rattle.std.proofs.lemmas.Bool.{eqb-true}
use Rattle.seg_text.specs.declared.boundary.Boundary.{Boundary}
use Rattle.seg_text.specs.Boundaries.{RestartsIn, start, shift_all, Cuts, HasEndAlone}
use Rattle.seg_text.proofs.Restarts.{restarts}
use Rattle.seg_pairs.specs.Verdict.{Verdict}
use Rattle.seg_pairs.specs.Verdict.Verdict.{BreakAfter, GoAfter, RunBegins}
use Rattle.seg_pairs.proofs.ComplexStretches.{later-same}
use Rattle.seg_line_pairs.specs.declared.engines.LineEngine.TheVariants.{Classic}
use Rattle.seg_line_pairs.specs.LineRules.{TableRules}
use Rattle.seg_line_pairs.specs.LineBoundaries.{HasComplexCodePoint, line_verdict, line_stretch_of, line_stretch, line_boundaries}
use Rattle.seg_line_pairs.proofs.LineStretches.{line-going, line-run}

-- runs without cuts
uncut : Cuts
uncut run = []

module _ (rules : TableRules Classic) where
  abbrev NoComplex : List ℕ → Type 0
  NoComplex code_points = HasComplexCodePoint rules code_points → ⊥

  none-after : (n : ℕ) (code_points : List ℕ) → NoComplex code_points → NoComplex (drop n code_points)
  none-after zero code_points none = none
  none-after (suc n) [] none = none
  none-after (suc n) (code_point ∷ code_points) none = none-after n code_points (λ there. none (suc there.0, omega (arith, there.1), there.2))

  same-uncut : (cuts : Cuts) (code_point : ℕ) (code_points : List ℕ) → NoComplex (code_point ∷ code_points)
      → line_stretch cuts rules (code_point ∷ code_points) ≡ line_stretch uncut rules (code_point ∷ code_points)
  same-uncut cuts code_point code_points none = on (line_verdict rules (code_point ∷ code_points)) refl
    where
      on : (w : Verdict) → line_verdict rules (code_point ∷ code_points) ≡ w
          → line_stretch_of cuts rules (code_point ∷ code_points) w ≡ line_stretch_of uncut rules (code_point ∷ code_points) w
      on (BreakAfter n class) is = refl
      on (GoAfter n) is = refl
      on RunBegins is = absurd (none (0, omega arith, eqb-true _ _ (line-run rules code_point code_points is).first_complex))

  uncut-alone : (code_point : ℕ) (code_points : List ℕ) → HasEndAlone (line_stretch uncut rules (code_point ∷ code_points))
  unfolding uncut
  uncut-alone code_point code_points = on (line_verdict rules (code_point ∷ code_points))
    where
      on : (w : Verdict) → HasEndAlone (line_stretch_of uncut rules (code_point ∷ code_points) w)
      on (BreakAfter n class) = inr (0, refl)
      on (GoAfter n) = inl refl
      on RunBegins = inl refl

  same-lists : (cuts : Cuts) (code_points : List ℕ) → NoComplex code_points → line_boundaries cuts rules code_points ≡ line_boundaries uncut rules code_points
  same-lists cuts code_points none =
      ap (λ (later : List Boundary). start ∷ later)
      (later-same (line_stretch cuts rules) (line_stretch uncut rules) NoComplex (same-uncut cuts) none-after code_points none)

  pub line-restarts : (cuts : Cuts) (code_points : List ℕ) → NoComplex code_points → RestartsIn (line_boundaries cuts rules) code_points
  line-restarts cuts code_points none k boundary is =
      let same : (n : ℕ) → line_boundaries cuts rules (drop n code_points) ≡ line_boundaries uncut rules (drop n code_points) =
      λ n. same-lists cuts (drop n code_points) (none-after n code_points none) in
      let other : RestartsIn (line_boundaries uncut rules) code_points = restarts (line_stretch uncut rules) (line-going rules uncut) uncut-alone code_points in
      ap (drop (suc k)) (same 0)
      ∙ other k boundary (sym (ap (λ (found : List Boundary). slice_get found k) (same 0)) ∙ is)
      ∙ sym (ap (λ (found : List Boundary). shift_all boundary.offset (drop 1 found)) (same boundary.offset))
