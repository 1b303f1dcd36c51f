-- Boundaries without their statuses: where they are in a text, what they cover, and where they restart.
use Rattle.std.proofs.Common.{◌≡◌, ℕ, zero, suc, ◌+◌, ◌-◌, List, [], ◌∷◌, ◌++◌, length, map, take, drop, refl, sym, ap, ◌∙◌}
use Rattle.std.specs.Prelude.{Option, Some, slice_get}
use Rattle.std.specs.Option.{option_map_or}
use Rattle.seg_text.specs.declared.boundary.Boundary.{Boundary}
use Rattle.seg_text.specs.Items.{Text}
use Rattle.seg_text.specs.Boundaries.{IsCover, RestartsIn, RisesTo, boundary, boundary_in, offsets, shift_all, with_status}
use Rattle.seg_clusters.specs.Certain.{without_last}

abbrev pub plain : List Boundary → List Boundary
plain found = with_status 0 (offsets found)

pub plain-drop : (k : ℕ) (found : List Boundary) → drop k (plain found) ≡ plain (drop k found)
plain-drop zero found = refl
plain-drop (suc k) [] = refl
plain-drop (suc k) (one ∷ found) = plain-drop k found

plain-take : (k : ℕ) (found : List Boundary) → take k (plain found) ≡ plain (take k found)
plain-take zero found = refl
plain-take (suc k) [] = refl
plain-take (suc k) (one ∷ found) = ap (λ (rest : List Boundary). boundary one.offset 0 ∷ rest) (plain-take k found)

plain-length : (found : List Boundary) → length (plain found) ≡ length found
plain-length [] = refl
plain-length (one ∷ found) = ap suc (plain-length found)

pub plain-without-last : (found : List Boundary) → without_last (plain found) ≡ plain (without_last found)
plain-without-last found = ap (λ (n : ℕ). take (n - 1) (plain found)) (plain-length found) ∙ plain-take (length found - 1) found

pub plain-offsets : (found : List Boundary) → offsets (plain found) ≡ offsets found
plain-offsets [] = refl
plain-offsets (one ∷ found) = ap (λ (places : List ℕ). one.offset ∷ places) (plain-offsets found)

pub plain-append : (some others : List Boundary) → plain (some ++ others) ≡ plain some ++ plain others
plain-append [] others = refl
plain-append (found ∷ some) others = ap (λ (rest : List Boundary). boundary found.offset 0 ∷ rest) (plain-append some others)

pub plain-shift : (before : ℕ) (found : List Boundary) → plain (shift_all before found) ≡ shift_all before (plain found)
plain-shift before [] = refl
plain-shift before (one ∷ found) = ap (λ (rest : List Boundary). boundary (before + one.offset) 0 ∷ rest) (plain-shift before found)

plain-get : (found : List Boundary) (k : ℕ) (one : Boundary) → slice_get (plain found) k ≡ Some one
    → (there : Boundary) × ((slice_get found k ≡ Some there) × (there.offset ≡ one.offset))
plain-get [] zero one is = absurd cc
plain-get [] (suc k) one is = absurd cc
plain-get (first ∷ found) zero one is = (first, (refl, ap (λ (given : Option Boundary). option_map_or (λ (b : Boundary). b.offset) given 0) is))
plain-get (first ∷ found) (suc k) one is = plain-get found k one is

-- they restart where those with statuses do
pub restarts-plain : (find : List ℕ → List Boundary) (xs : List ℕ) → RestartsIn find xs → RestartsIn (λ xs. plain (find xs)) xs
restarts-plain find xs restart k one is =
    let there = plain-get (find xs) k one is in
    plain-drop (suc k) (find xs)
    ∙ ap plain (restart k there.0 there.1.0)
    ∙ plain-shift there.0.offset (drop 1 (find (drop there.0.offset xs)))
    ∙ ap (shift_all there.0.offset) (sym (plain-drop 1 (find (drop there.0.offset xs))))
    ∙ ap (λ n. shift_all n (drop 1 (plain (find (drop n xs))))) there.1.1

pub plain-places : (text : Text) (found : List Boundary) → plain (map (boundary_in text) found) ≡ map (boundary_in text) (plain found)
plain-places text [] = refl
plain-places text (one ∷ found) = ap (λ (rest : List Boundary). boundary (boundary_in text one).offset 0 ∷ rest) (plain-places text found)

plain-rises : (from end : ℕ) (found : List Boundary) → RisesTo from found end → RisesTo from (plain found) end
plain-rises from end [] rises = rises
plain-rises from end (one ∷ found) rises = (rises.0, plain-rises one.offset end found rises.1)

pub plain-cover : (from end : ℕ) (found : List Boundary) → IsCover from end found → IsCover from end (plain found)
plain-cover from end [] cover = cover
plain-cover from end (one ∷ found) cover = (cover.0, plain-rises from end found cover.1)
