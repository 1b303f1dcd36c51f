-- What a machine finds, a segmenter by that machine finds.
use Rattle.std.proofs.Common.{◌≡◌, ℕ, List, sym, subst}
use Rattle.std.specs.Prelude.{Result, Ok, Err, IfOk, IsOkAnd}
use Rattle.icu_segmenter.specs.Boundary.{Boundary}
use Rattle.seg_machine.specs.Machine.{Machine}
use Rattle.seg_machine.specs.Pick.{machine_boundaries}
use Rattle.icu_segmenter.specs.Rules.{Rules, boundaries_by}
use Rattle.icu_segmenter.specs.Rules.Rules.{ByMachine}

module _ {S : Type 0} (rules : S → Rules) (known : Machine) (Finds : (List ℕ → List Boundary) → Type 0) (finds : Finds (machine_boundaries known)) where
  by : (segmenter : S) (m : Machine) → m ≡ known → rules segmenter ≡ ByMachine m → Finds (boundaries_by (rules segmenter))
  by segmenter m is has = subst (λ rules. Finds (boundaries_by rules)) (sym (rw is at has)) finds

  -- where the constructor takes every machine
  pub found-always : {E : Type 0} (made : Result S E) (m : Machine) → m ≡ known → IsOkAnd made (λ segmenter. rules segmenter ≡ ByMachine m)
      → IfOk made (λ segmenter. Finds (boundaries_by (rules segmenter)))
  found-always (Ok segmenter) m is has = by segmenter m is has
  found-always (Err fault) m is has = absurd has

  -- where it may reject one
  pub found : {E : Type 0} (made : Result S E) (m : Machine) (More : S → Type 0) → m ≡ known → IfOk made (λ segmenter. (rules segmenter ≡ ByMachine m) × More segmenter)
      → IfOk made (λ segmenter. Finds (boundaries_by (rules segmenter)))
  found (Ok segmenter) m More is has = by segmenter m is has.0
  found (Err fault) m More is has = has
