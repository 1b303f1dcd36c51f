-- Offsets that part no mark from what bears it, by either engine of lines.
use Rattle.std.proofs.Common.{◌≡◌, ℕ, zero, suc, ◌+◌, ◌<◌, true, false, None, List, [], ◌∷◌, ◌++◌, length, drop, refl, sym, ap, ◌∙◌, subst, arith}
use Rattle.std.specs.Prelude.{slice_get}
use Rattle.std.proofs.lemmas.Bool.{false≢true}
use Rattle.std.proofs.lemmas.List.Sums.{prefix_len_passes}
use Rattle.std.proofs.lemmas.Option.{get_or_from_slice_get}
use Rattle.seg_text.specs.declared.boundary.Boundary.{Boundary}
use Rattle.seg_text.specs.Boundaries.{RisesTo, shift_all, Cuts, with_status}
use Rattle.seg_line_pairs.specs.declared.engines.LineEngine.{LineEngine}
use Rattle.seg_line_pairs.specs.LineRules.{TableRules, line_class, is_complex_point, is_complex_class}
use Rattle.seg_line_pairs.specs.LineUnits.{is_mark}
use Rattle.seg_line_pairs.specs.LineBoundaries.{complex_length, KeepsMarks}
use Rattle.seg_line_pairs.proofs.UnitLists.{PartsAfter}
use Rattle.seg_line_pairs.proofs.Inside.{rises-le}
use Rattle.seg_line_pairs.proofs.LineStretches.{StandInside}

pub get-drop : (n k : ℕ) (xs : List ℕ) → slice_get (drop n xs) k ≡ slice_get xs (n + k)
get-drop zero k xs = let none : k ≡ 0 + k = omega arith in ap (slice_get xs) none
get-drop (suc n) k [] = none k ∙ sym (none (suc n + k))
  where
    none : (k : ℕ) → slice_get {X = ℕ} [] k ≡ None
    none zero = refl
    none (suc k) = refl
get-drop (suc n) k (x ∷ xs) =
    let more : suc (n + k) ≡ suc n + k = omega arith in
    get-drop n k xs ∙ ap (slice_get (x ∷ xs)) more

module _ {engine : LineEngine} (rules : TableRules engine) where
  -- an offset above 0 that parts no mark from what bears it
  abbrev pub Parts : List ℕ → ℕ → Type 0
  Parts code_points zero = ⊥
  Parts code_points (suc k) = PartsAfter rules code_points k

  abbrev pub AllPart : List ℕ → List Boundary → Type 0
  AllPart code_points [] = Unit {0}
  AllPart code_points (found ∷ boundaries) = Parts code_points found.offset × AllPart code_points boundaries

  pub parts-later : (n : ℕ) (code_points : List ℕ) (offset : ℕ) → Parts (drop n code_points) offset → Parts code_points (n + offset)
  parts-later n code_points zero parts = absurd parts
  parts-later n code_points (suc k) parts =
      let more : n + suc k ≡ suc (n + k) = omega arith in
      rw more
      (λ before mark here there. parts before mark (get-drop n k code_points ∙ here) (get-drop n (suc k) code_points ∙ rw more there))

  pub all-later : (n : ℕ) (code_points : List ℕ) (boundaries : List Boundary) → AllPart (drop n code_points) boundaries → AllPart code_points (shift_all n boundaries)
  all-later n code_points [] all = tt
  all-later n code_points (found ∷ boundaries) all = (parts-later n code_points found.offset all.0, all-later n code_points boundaries all.1)

  pub all-append : (code_points : List ℕ) (some others : List Boundary) → AllPart code_points some → AllPart code_points others → AllPart code_points (some ++ others)
  all-append code_points [] others all more = more
  all-append code_points (found ∷ some) others all more = (all.0, all-append code_points some others all.1 more)

  -- where no complex class is that of marks, each cut strictly inside a run parts
  pub cuts-part : ((class : ℕ) → is_complex_class rules class ≡ true → is_mark engine class ≡ false) → (code_points : List ℕ) (from end : ℕ) (cuts : List ℕ)
      → end < complex_length rules code_points → RisesTo from (with_status 0 cuts) end → AllPart code_points (with_status 0 cuts)
  cuts-part apart code_points from end [] less rises = tt
  cuts-part apart code_points from end (cut ∷ cuts) less rises =
      (one cut (omega (arith, rises.0)) (omega (arith, less, rises-le cut cuts end rises.1)), cuts-part apart code_points cut end cuts less rises.1)
    where
      one : (cut : ℕ) → 0 < cut → cut < complex_length rules code_points → Parts code_points cut
      one zero some within = absurd (omega (arith, some))
      one (suc k) some within = λ before mark here there is.
          let passes : is_complex_point rules mark ≡ true =
          ap (is_complex_point rules) (sym (get_or_from_slice_get code_points (suc k) mark mark there)) ∙ prefix_len_passes (is_complex_point rules) code_points (suc k) mark within in
          absurd (false≢true (sym (apart (line_class rules mark) passes) ∙ is))

  -- .. and so do all cuts of a run
  pub run-part : (cuts : Cuts) → StandInside cuts → ((class : ℕ) → is_complex_class rules class ≡ true → is_mark engine class ≡ false)
      → (code_points inner : List ℕ) → 0 < length inner → length inner ≡ complex_length rules code_points → AllPart code_points (with_status 0 (cuts inner))
  run-part cuts stand apart code_points [] some long = absurd (omega (arith, some))
  run-part cuts stand apart code_points (first ∷ rest) some long =
      let there = stand first rest in
      cuts-part apart code_points 0 there.0 (cuts (first ∷ rest)) (omega (arith, there.1, long)) there.2

  pub keeps-later : (code_points : List ℕ) (later : List Boundary) → AllPart code_points later → KeepsMarks rules code_points later
  keeps-later code_points [] all k before mark there = absurd (omega (arith, there.1))
  keeps-later code_points (found ∷ later) all k before mark (zero, less, is) = subst (Parts code_points) is all.0 before mark
  keeps-later code_points (found ∷ later) all k before mark (suc j, less, is) = keeps-later code_points later all.1 k before mark (j, omega (arith, less), is)
