-- What begins at a certain place is as alone above it.
use Rattle.std.proofs.Common.{◌≡◌, ℕ, suc, ◌+◌, ◌-◌, ◌<◌, Bool, true, false, List, [], ◌∷◌, ◌++◌, take, drop, length, cond, refl, sym, ap, ap₂, ◌∙◌, subst, arith, length-append}
use Rattle.std.specs.Prelude.{filter, nat_lt}
use Rattle.std.proofs.lemmas.Bool.{le-ltb, lt-ltb}
use Rattle.std.proofs.lemmas.List.Elements.{filter-append}
use Rattle.seg_text.specs.declared.boundary.Boundary.{Boundary}
use Rattle.seg_text.specs.Boundaries.{IsCover, RisesTo, shift_all}
use Rattle.seg_text.proofs.Covers.{rises-le}
use Rattle.seg_clusters.specs.Certain.{BeginsBetween, SplitsBetween, above, without_last}

pub last-later : (found next : Boundary) (counted : List Boundary) → without_last (found ∷ next ∷ counted) ≡ found ∷ without_last (next ∷ counted)
last-later found next counted =
    let same : suc (suc (length counted)) - 1 ≡ suc (suc (length counted) - 1) = omega arith in
    ap (λ (n : ℕ). take n (found ∷ next ∷ counted)) same

-- of boundaries that rise, all but the last stand before the end, so none of them above the place before it
above-none : (test : Boundary → Bool) (place : ℕ) (one : Boundary) (boundaries : List Boundary) → RisesTo one.offset boundaries (suc place)
    → above place (filter test (without_last (one ∷ boundaries))) ≡ []
above-none test place one [] rises = refl
above-none test place one (next ∷ boundaries) rises =
    rw (last-later one next boundaries) (on (test one) (above-none test place next boundaries rises.1))
  where
    low : nat_lt place one.offset ≡ false
    low = le-ltb place one.offset (omega (arith, rises.0, rises-le boundaries next.offset (suc place) rises.1))

    on : (b : Bool) → above place (filter test (without_last (next ∷ boundaries))) ≡ []
        → above place (cond b (one ∷ filter test (without_last (next ∷ boundaries))) (filter test (without_last (next ∷ boundaries)))) ≡ []
    on true rest = rw low rest
    on false rest = rest

pub cover-none : (test : Boundary → Bool) (place : ℕ) (boundaries : List Boundary) → IsCover 0 (suc place) boundaries → above place (filter test (without_last boundaries)) ≡ []
cover-none test place [] cover = absurd cover
cover-none test place (one ∷ boundaries) cover =
    above-none test place one boundaries (subst (λ (from : ℕ). RisesTo from boundaries (suc place)) (sym cover.0) cover.1)

above-all : (place from end : ℕ) (boundaries : List Boundary) → RisesTo from boundaries end → above place (shift_all place boundaries) ≡ shift_all place boundaries
above-all place from end [] rises = refl
above-all place from end (one ∷ boundaries) rises =
    rw (lt-ltb place (place + one.offset) (omega (arith, rises.0)), above-all place one.offset end boundaries rises.1) refl

pub above-later : (place end : ℕ) (boundaries : List Boundary) → IsCover 0 end boundaries → above place (shift_all place (drop 1 boundaries)) ≡ shift_all place (drop 1 boundaries)
above-later place end [] cover = absurd cover
above-later place end (one ∷ boundaries) cover = above-all place 0 end boundaries cover.1

all-true : (boundaries : List Boundary) → filter (λ (found : Boundary). true) boundaries ≡ boundaries
all-true [] = refl
all-true (one ∷ boundaries) = ap (λ (rest : List Boundary). one ∷ rest) (all-true boundaries)

-- where lists split, above the place stands what begins there
pub splits-begin : (find : List ℕ → List Boundary) (before one other : ℕ) → ((cs : List ℕ) → IsCover 0 (length cs) (find cs))
    → SplitsBetween find before one other → BeginsBetween find before one other
splits-begin find before one other cover parts earlier later =
    let place = length earlier + 2 in
    let ended : List ℕ = earlier ++ before ∷ one ∷ other ∷ [] in
    let second : List ℕ = other ∷ later in
    let size : length ended ≡ suc place = omega (arith, length-append earlier (before ∷ one ∷ other ∷ [])) in
    ap (above place) (parts earlier later)
    ∙ filter-append (λ (found : Boundary). nat_lt place found.offset) (without_last (find ended)) (shift_all place (drop 1 (find second)))
    ∙ ap₂ (λ (some others : List Boundary). some ++ others)
    (ap (above place) (sym (all-true (without_last (find ended))))
    ∙ cover-none (λ _. true) place (find ended) (subst (λ (n : ℕ). IsCover 0 n (find ended)) size (cover ended)))
    (above-later place (length second) (find second) (cover second))

-- of one code point, one boundary stands behind its start
pub record IsOne (boundaries : List Boundary) : Type 0 where
  pub last : Boundary
  pub is : boundaries ≡ last ∷ []
  pub after_start : 0 < last.offset

pub one-boundary : (boundaries : List Boundary) → RisesTo 0 boundaries 1 → IsOne boundaries
one-boundary [] rises = absurd (omega (arith, rises))
one-boundary (last ∷ []) rises = record { last = last; is = refl; after_start = rises.0 }
one-boundary (found ∷ next ∷ boundaries) rises = absurd (omega (arith, rises.0, rises.1.0, rises-le boundaries next.offset 1 rises.1.1))
