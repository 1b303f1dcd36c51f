-- Stretches of texts with complex elements: where they end, and what they are where no element is complex.
use Rattle.std.proofs.Common.{◌≡◌, ◌≢◌, ℕ, zero, suc, ◌<◌, ◌==◌, Bool, true, false, List, [], ◌∷◌, ◌++◌, length, take, drop, refl, ap, ◌∙◌, subst, arith}
use Rattle.std.specs.Prelude.{Option, if◌then◌else◌}
use Rattle.std.proofs.lemmas.List.{length-map}
use Rattle.std.proofs.lemmas.List.Folds.{length-prefix_len}
use Rattle.std.proofs.lemmas.List.Sums.{prefix_len-le-length}
use Rattle.seg_text.specs.declared.boundary.Boundary.{Boundary}
use Rattle.seg_text.specs.Boundaries.{shift_all, RisesTo, Cuts, with_status, Stretch, later_boundaries_within, later_boundaries, HasProgress, IsWithin}
use Rattle.seg_data.specs.Table.{Table}
use Rattle.seg_pairs.specs.PairTable.{PairTable, class_of}
use Rattle.seg_pairs.specs.Verdict.{Verdict, verdict, complex_verdict, TakesOf, IsForward}
use Rattle.seg_pairs.specs.Verdict.Verdict.{BreakAfter, GoAfter, RunBegins}
use Rattle.seg_pairs.specs.Breaks.{stretch_of, class_stretch, table_stretch, classes_by, HasComplexElement, is_complex, run_length, run_status, stretch_with_runs, complex_stretch}
use Rattle.seg_pairs.proofs.Chained.{Chained, chained}
use Rattle.seg_pairs.proofs.Engine.{verdict-within}
use Rattle.seg_pairs.proofs.Forward.{complex-forward, verdict-no-run, no-complex}

-- a run begins with a complex element
run-complex : (t : PairTable) (first : ℕ) (rest : List ℕ) → complex_verdict t (first ∷ rest) ≡ RunBegins → (first == t.complex_property) ≡ true
unfolding complex_verdict
run-complex t first [] is = cc
run-complex t first (second ∷ after) is = outer (second == t.complex_property) is
  where
    inner : (b : Bool) → (first == t.complex_property) ≡ b → (if b then RunBegins else BreakAfter 1 first) ≡ RunBegins → (first == t.complex_property) ≡ true
    inner true same found = same
    inner false same found = cc

    outer : (b : Bool) → (if b then (if first == t.complex_property then RunBegins else BreakAfter 1 first) else verdict t (first ∷ second ∷ after)) ≡ RunBegins
        → (first == t.complex_property) ≡ true
    outer true found = inner (first == t.complex_property) refl found
    outer false found = absurd (verdict-no-run t first (second ∷ after) found)

module _ (t : PairTable) (overriding : Option Table) where
  -- the verdict on the first of some code points
  abbrev pub point_verdict : List ℕ → Verdict
  point_verdict code_points = complex_verdict t (classes_by t overriding code_points)

  pub point-forward : IsForward point_verdict
  point-forward c cs = subst (λ n. TakesOf (suc n) (point_verdict (c ∷ cs))) (length-map cs (class_of t overriding)) (complex-forward t (class_of t overriding c) (classes_by t overriding cs))

  pub run-some : (c : ℕ) (cs : List ℕ) → point_verdict (c ∷ cs) ≡ RunBegins → 0 < run_length t overriding (c ∷ cs)
  run-some c cs is = rw (run-complex t (class_of t overriding c) (classes_by t overriding cs) is) (omega arith)

  pub complex-going : (cuts : Cuts) → HasProgress (complex_stretch cuts t overriding)
  complex-going cuts = λ c cs. on c cs (point_verdict (c ∷ cs)) refl (point-forward c cs)
    where
      on : (c : ℕ) (cs : List ℕ) (w : Verdict) → point_verdict (c ∷ cs) ≡ w → TakesOf (length (c ∷ cs)) w → 0 < (stretch_with_runs cuts t overriding (c ∷ cs) w).extent
      on c cs (BreakAfter n class) is takes = takes.0
      on c cs (GoAfter n) is takes = takes.0
      on c cs RunBegins is takes = run-some c cs is

  pub complex-chained : (cuts : Cuts) (c : ℕ) (cs : List ℕ) → Chained (complex_stretch cuts t overriding) point_verdict (c ∷ cs)
  complex-chained cuts c cs =
      chained (complex_stretch cuts t overriding) (complex-going cuts) point_verdict point-forward
      (λ x xs n is. ap (stretch_with_runs cuts t overriding (x ∷ xs)) is) c cs

-- cuts that rise to the end of each run give stretches whose boundaries do

rises-status : (one other from end : ℕ) (cuts : List ℕ) → RisesTo from (with_status one cuts) end → RisesTo from (with_status other cuts) end
rises-status one other from end [] rises = rises
rises-status one other from end (cut ∷ cuts) rises = (rises.0, rises-status one other cut end cuts rises.1)

pub complex-within : (cuts : Cuts) → ((run : List ℕ) → RisesTo 0 (with_status 0 (cuts run)) (length run))
    → (t : PairTable) (overriding : Option Table) (c : ℕ) (cs : List ℕ) → IsWithin (length (c ∷ cs)) (complex_stretch cuts t overriding (c ∷ cs))
complex-within cuts covers t overriding c cs = on (point_verdict t overriding (c ∷ cs)) refl (point-forward t overriding c cs)
  where
    on : (w : Verdict) → point_verdict t overriding (c ∷ cs) ≡ w → TakesOf (length (c ∷ cs)) w → IsWithin (length (c ∷ cs)) (stretch_with_runs cuts t overriding (c ∷ cs) w)
    on (BreakAfter n class) is takes = verdict-within t.rule_status_table (length (c ∷ cs)) (BreakAfter n class) takes (λ other. cc)
    on (GoAfter n) is takes = verdict-within t.rule_status_table (length (c ∷ cs)) (GoAfter n) takes (λ other. cc)
    on RunBegins is takes =
        let n : ℕ = run_length t overriding (c ∷ cs) in
        let rises : RisesTo 0 (with_status (run_status t) (cuts (take n (c ∷ cs)))) n =
        rises-status 0 (run_status t) 0 n (cuts (take n (c ∷ cs)))
        (subst (RisesTo 0 (with_status 0 (cuts (take n (c ∷ cs))))) (length-prefix_len (is_complex t overriding) (c ∷ cs)) (covers (take n (c ∷ cs)))) in
        record {
          some = run-some t overriding c cs is;
          within = prefix_len-le-length (is_complex t overriding) (c ∷ cs);
          rises = (n, omega arith, rises);
          last = λ all. rises;
        }

-- two ways to go through a list find the same where their first stretches are the same, here and in all that may be left

module _ {X : Type 0} (first other : List X → Stretch) (Holds : List X → Type 0)
    (same : (x : X) (xs : List X) → Holds (x ∷ xs) → first (x ∷ xs) ≡ other (x ∷ xs)) (after : (n : ℕ) (xs : List X) → Holds xs → Holds (drop n xs)) where
  later-same-within : (most : ℕ) (xs : List X) → Holds xs → later_boundaries_within first most xs ≡ later_boundaries_within other most xs
  unfolding later_boundaries_within
  later-same-within zero xs holds = refl
  later-same-within (suc most) [] holds = refl
  later-same-within (suc most) (x ∷ xs) holds =
      let n = (first (x ∷ xs)).extent in
      ap (λ (later : List Boundary). (first (x ∷ xs)).boundaries ++ shift_all n later) (later-same-within most (drop n (x ∷ xs)) (after n (x ∷ xs) holds))
      ∙ ap (λ (s : Stretch). s.boundaries ++ shift_all s.extent (later_boundaries_within other most (drop s.extent (x ∷ xs)))) (same x xs holds)

  pub later-same : (xs : List X) → Holds xs → later_boundaries first xs ≡ later_boundaries other xs
  unfolding later_boundaries
  later-same xs holds = later-same-within (length xs) xs holds

-- without complex elements cuts are no matter

pub none-after : (t : PairTable) (overriding : Option Table) (n : ℕ) (xs : List ℕ) → (HasComplexElement t overriding xs → ⊥) → HasComplexElement t overriding (drop n xs) → ⊥
none-after t overriding zero xs none = none
none-after t overriding (suc n) [] none = none
none-after t overriding (suc n) (x ∷ xs) none = none-after t overriding n xs (λ there. none (suc there.0, omega (arith, there.1), there.2))

table-same : (cuts : Cuts) (t : PairTable) (overriding : Option Table) (x : ℕ) (xs : List ℕ) → (HasComplexElement t overriding (x ∷ xs) → ⊥)
    → complex_stretch cuts t overriding (x ∷ xs) ≡ table_stretch t overriding (x ∷ xs)
unfolding class_stretch
table-same cuts t overriding x xs none =
    ap (stretch_with_runs cuts t overriding (x ∷ xs)) (no-complex t (class_of t overriding x) (classes_by t overriding xs) none)
    ∙ on (verdict t (classes_by t overriding (x ∷ xs))) (verdict-no-run t (class_of t overriding x) (classes_by t overriding xs))
  where
    on : (w : Verdict) → w ≢ RunBegins → stretch_with_runs cuts t overriding (x ∷ xs) w ≡ stretch_of t.rule_status_table (length (classes_by t overriding (x ∷ xs))) w
    on (BreakAfter n class) other = refl
    on (GoAfter n) other = refl
    on RunBegins other = absurd (other refl)

pub without-complex : (cuts : Cuts) (t : PairTable) (overriding : Option Table) (xs : List ℕ) → (HasComplexElement t overriding xs → ⊥)
    → later_boundaries (complex_stretch cuts t overriding) xs ≡ later_boundaries (table_stretch t overriding) xs
without-complex cuts t overriding =
    later-same (complex_stretch cuts t overriding) (table_stretch t overriding) (λ xs. HasComplexElement t overriding xs → ⊥) (table-same cuts t overriding) (none-after t overriding)
