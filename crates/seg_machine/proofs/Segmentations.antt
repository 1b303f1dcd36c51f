-- The segments of a text are stretches: each takes some of it, and by a checked machine ends with a boundary.
use Rattle.std.proofs.Common.{◌≡◌, ◌≢◌, ℕ, ◌<◌, List, [], ◌∷◌, length, get_or, All, refl, inl, inr, arith}
use Rattle.std.specs.Prelude.{Option, Some, None, IsSome}
use Rattle.std.specs.Option.{option_map_or}
use Rattle.std.proofs.lemmas.Bool.{false≢true}
use Rattle.std.proofs.lemmas.List.{get_or-map, length-map}
use Rattle.seg_text.specs.declared.boundary.Boundary.{Boundary}
use Rattle.seg_text.specs.Boundaries.{Stretch, HasProgress, HasEndAlone, IsWithin}
use Rattle.seg_machine.specs.Machine.{Machine, IsTextSymbol, symbol_and_script, symbols_of}
use Rattle.seg_machine.specs.Pick.{pick, machine_stretch}
use Rattle.seg_machine.specs.MachineFaults.{IsChecked}
use Rattle.seg_machine.proofs.Picks.{pick-bounds}

-- the symbols of code points are symbols of a text
pub symbols_of-text : (m : Machine) → IsChecked m → (code_points : List ℕ) → All (IsTextSymbol m) (symbols_of m code_points)
symbols_of-text m checked code_points k d within =
    let same : length (symbols_of m code_points) ≡ length code_points = length-map code_points (λ code_point. (symbol_and_script m code_point).0) in
    rw (get_or-map (λ code_point. (symbol_and_script m code_point).0) code_points k 0 d (omega arith)) (checked.text_symbols (get_or code_points k 0))

some-symbol : (m : Machine) (x : ℕ) (xs : List ℕ) → symbols_of m (x ∷ xs) ≢ []
some-symbol m x xs none = cc

-- the stretch of a pick, or of none
abbrev stretch_of : Option Boundary → List ℕ → Stretch
stretch_of picked code_points =
    option_map_or (λ (picked : Boundary). record { extent = picked.offset; boundaries = picked ∷ [] }) picked (record { extent = length code_points; boundaries = [] })

pub machine-picks : (m : Machine) (code_points : List ℕ) (picked : Boundary) → pick m (symbols_of m code_points) ≡ Some picked
    → machine_stretch m code_points ≡ record { extent = picked.offset; boundaries = picked ∷ [] }
unfolding machine_stretch
machine-picks m code_points picked is = rw is refl

pub machine-going : (m : Machine) → HasProgress (machine_stretch m)
unfolding machine_stretch
machine-going m x xs = on (pick m (symbols_of m (x ∷ xs))) refl
  where
    on : (picked : Option Boundary) → pick m (symbols_of m (x ∷ xs)) ≡ picked → 0 < (stretch_of picked (x ∷ xs)).extent
    on None is = omega arith
    on (Some picked) is = (pick-bounds m _ picked is (some-symbol m x xs)).0

pub machine-alone : (m : Machine) (x : ℕ) (xs : List ℕ) → HasEndAlone (machine_stretch m (x ∷ xs))
unfolding machine_stretch
machine-alone m x xs = on (pick m (symbols_of m (x ∷ xs)))
  where
    on : (picked : Option Boundary) → HasEndAlone (stretch_of picked (x ∷ xs))
    on None = inl refl
    on (Some picked) = inr (picked.status, refl)

-- a checked machine has a pick
pub machine-within : (m : Machine) → IsChecked m → (x : ℕ) (xs : List ℕ) → IsWithin (length (x ∷ xs)) (machine_stretch m (x ∷ xs))
unfolding machine_stretch
machine-within m checked x xs =
    on (pick m (symbols_of m (x ∷ xs))) refl (checked.stall_free _ (some-symbol m x xs) (symbols_of-text m checked (x ∷ xs)))
  where
    on : (picked : Option Boundary) → pick m (symbols_of m (x ∷ xs)) ≡ picked → IsSome picked → IsWithin (length (x ∷ xs)) (stretch_of picked (x ∷ xs))
    on None is some = absurd (false≢true some)
    on (Some picked) is some =
        let bounds = pick-bounds m _ picked is (some-symbol m x xs) in
        let long : length (symbols_of m (x ∷ xs)) ≡ length (x ∷ xs) = length-map (x ∷ xs) (λ code_point. (symbol_and_script m code_point).0) in
        record { some = bounds.0; within = omega (arith, bounds.1, long); rises = (picked.offset, omega arith, (bounds.0, refl)); last = λ all. (bounds.0, refl) }
