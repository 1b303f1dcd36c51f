-- Cuts of a text stand in it, and so much later they are still numbers of 64 bits.
use Rattle.std.proofs.Common.{◌≡◌, ℕ, zero, suc, ◌+◌, ◌<◌, ◌≤◌, List, [], ◌∷◌, map, drop, sym, subst, arith}
use Rattle.std.specs.Prelude.{◌^◌}
use Rattle.seg_text.specs.Items.{Item, Text, IsRising, place_of, start_of, rest_after, code_points}
use Rattle.seg_text.specs.Boundaries.{Cuts, cut_places}
use Rattle.seg_clusters.specs.Scripts.{FitLater}

place-inside : (items : List Item) (end n : ℕ) → IsRising items end → place_of (drop n items) end ≤ end
place-inside [] end zero rising = omega arith
place-inside [] end (suc n) rising = omega arith
place-inside (item ∷ items) end zero rising = omega (arith, rising.0, place-inside items end zero rising.1)
place-inside (item ∷ items) end (suc n) rising = place-inside items end n rising.1

cuts-fit : (offset : ℕ) (text : Text) (cuts : List ℕ) → IsRising text.items text.end → offset + text.end < 2 ^ 64
    → FitLater offset (map (λ (cut : ℕ). start_of (rest_after cut text)) cuts)
cuts-fit offset text [] rising fits = tt
cuts-fit offset text (cut ∷ cuts) rising fits =
    (omega (arith, fits, place-inside text.items text.end cut rising), cuts-fit offset text cuts rising fits)

pub places-fit : (offset : ℕ) (cuts : Cuts) (text : Text) (places : List ℕ) → IsRising text.items text.end → offset + text.end < 2 ^ 64 → places ≡ cut_places cuts text
    → FitLater offset places
places-fit offset cuts text places rising fits are = subst (FitLater offset) (sym are) (cuts-fit offset text (cuts (code_points text.items)) rising fits)
