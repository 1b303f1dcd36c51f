-- What begins behind a space, and with none, is as alone, where no abbreviation has a space.
use Rattle.std.proofs.Common.{◌≡◌, ℕ, zero, suc, ◌+◌, ◌<◌, Bool, true, false, List, [], ◌∷◌, ◌++◌, take, drop, length, refl, sym, ap, ap₂, ◌∙◌, subst, arith, append_assoc, length-append}
use Rattle.std.specs.Prelude.{filter, nat_lt}
use Rattle.std.specs.List.{list_all}
use Rattle.std.proofs.lemmas.Bool.{false≢true}
use Rattle.std.proofs.lemmas.List.Elements.{filter-append}
use Rattle.seg_text.specs.declared.boundary.Boundary.{Boundary}
use Rattle.seg_text.specs.Boundaries.{IsCover, shift_all}
use Rattle.seg_data.specs.WordSets.{Words}
use Rattle.seg_clusters.specs.Certain.{BeginsBetween, SplitsBetween, above, without_last}
use Rattle.seg_clusters.proofs.Begins.{above-later, cover-none}
use Rattle.seg_segments.specs.InLines.{AreSpaceless}
use Rattle.seg_segments.specs.Suppression.{is_letter_or_digit, is_space, stays_in, without_abbreviated}
use Rattle.seg_segments.proofs.Stops.{have-none, kept-second}
use Rattle.seg_segments.proofs.Texts.{found-covers}

-- ---- what begins with no space

not-all : (one other : ℕ) (later : List ℕ) → is_space one ≡ true → is_space other ≡ false → (n : ℕ) → 0 < n → list_all is_space (one ∷ take n (other ∷ later)) ≡ false
not-all one other later space none zero some = absurd (omega (arith, some))
not-all one other later space none (suc n) some = rw (space, none) refl

pub begins-behind : (words : Words) (find : List ℕ → List Boundary) (before one other : ℕ) → AreSpaceless words → is_space one ≡ true → is_letter_or_digit one ≡ false
    → is_space other ≡ false → ((cs : List ℕ) → IsCover 0 (length cs) (find cs)) → SplitsBetween find before one other
    → BeginsBetween (without_abbreviated words find) before one other
begins-behind words find before one other spaceless space apart none cover parts earlier later =
    let place = length earlier + 2 in
    let front : List ℕ = earlier ++ before ∷ [] in
    let second : List ℕ = other ∷ later in
    let first : List ℕ = front ++ one ∷ [] in
    let whole : List ℕ = earlier ++ before ∷ one ∷ second in
    let ended : List ℕ = earlier ++ before ∷ one ∷ other ∷ [] in
    let joined : first ++ second ≡ whole = append_assoc front (one ∷ []) second ∙ append_assoc earlier (before ∷ []) (one ∷ second) in
    let long : length first ≡ place = omega (arith, length-append front (one ∷ []), length-append earlier (before ∷ [])) in
    let size : length ended ≡ suc place = omega (arith, length-append earlier (before ∷ one ∷ other ∷ [])) in
    let test : Boundary → Bool = stays_in words whole in
    let no_space = have-none one words (λ word has there. false≢true (sym (spaceless word has one there) ∙ space)) in
    let kept : filter test (shift_all place (drop 1 (find second))) ≡ shift_all place (drop 1 (without_abbreviated words find second)) =
    sym (ap₂ (λ (cs : List ℕ) (n : ℕ). filter (stays_in words cs) (shift_all n (drop 1 (find second)))) joined long)
    ∙ kept-second one words no_space apart front second (not-all one other later space none) find (cover second)
    ∙ ap (λ (n : ℕ). shift_all n (drop 1 (without_abbreviated words find second))) long in
    ap (λ (found : List Boundary). above place (filter test found)) (parts earlier later)
    ∙ ap (above place) (filter-append test (without_last (find ended)) (shift_all place (drop 1 (find second))))
    ∙ filter-append (λ (found : Boundary). nat_lt place found.offset) (filter test (without_last (find ended))) (filter test (shift_all place (drop 1 (find second))))
    ∙ ap₂ (λ (some others : List Boundary). some ++ others)
    (cover-none test place (find ended) (subst (λ (n : ℕ). IsCover 0 n (find ended)) size (cover ended)))
    (ap (above place) kept ∙ above-later place (length second) (without_abbreviated words find second) (found-covers words find second (cover second)))
