-- The clusters of what is left after the end of a cluster are those of the whole.
use Rattle.std.proofs.Common.{◌≡◌, ℕ, zero, suc, ◌+◌, ◌<◌, ◌≤◌, ◌⊎◌, inl, inr, List, [], ◌∷◌, length, drop, slice_get, Contains, refl, sym, ap, subst, arith}
use Rattle.std.specs.Prelude.{Some}
use Rattle.seg_text.specs.declared.boundary.Boundary.{Boundary}
use Rattle.seg_text.specs.Boundaries.{shift_all, offsets, RisesTo, IsCover, HasRestart}
use Rattle.seg_clusters.specs.DictionaryCuts.{Clusters}
use Rattle.seg_clusters.proofs.Cutting.{offsets-rise}
use Rattle.seg_clusters.proofs.Tails.{contains-cases, contains-here, contains-later, contains-nil}
use Rattle.seg_clusters.proofs.NextCuts.{Rises, rising-above}

-- boundaries that cover a list begin with its start
pub record AreEnds (ends : List ℕ) (end : ℕ) : Type 0 where
  pub later : List ℕ
  pub is : ends ≡ 0 ∷ later
  pub rises : Rises 0 later end

pub covered-ends : (boundaries : List Boundary) (end : ℕ) → IsCover 0 end boundaries → AreEnds (offsets boundaries) end
covered-ends [] end cover = absurd cover
covered-ends (boundary ∷ boundaries) end (first, rises) =
    record { later = offsets boundaries; is = ap (λ n. n ∷ offsets boundaries) first; rises = offsets-rise boundaries 0 end rises }

-- the boundary at an offset, and those after it
record IsSplit (boundaries : List Boundary) (from : ℕ) : Type 0 where
  pub index : ℕ
  pub found : Boundary
  pub there : slice_get boundaries index ≡ Some found
  pub offset : found.offset ≡ from
  pub after : (n : ℕ) → from < n → Contains (offsets boundaries) n → Contains (offsets (drop (suc index) boundaries)) n
  pub whole : (n : ℕ) → Contains (offsets (drop (suc index) boundaries)) n → Contains (offsets boundaries) n

passed : (first from : ℕ) (others : List ℕ) (n : ℕ) → first ≤ from → from < n → Contains (first ∷ others) n → Contains others n
passed first from others n low above among = on (contains-cases first others n among)
  where
    on : (first ≡ n) ⊎ Contains others n → Contains others n
    on (inl same) = absurd (omega (arith, same, low, above))
    on (inr later) = later

split : (boundary : Boundary) (boundaries : List Boundary) (end from : ℕ) → RisesTo boundary.offset boundaries end
    → (boundary.offset ≡ from) ⊎ Contains (offsets boundaries) from → IsSplit (boundary ∷ boundaries) from
split boundary boundaries end from rises (inl here) = record {
  index = 0;
  found = boundary;
  there = refl;
  offset = here;
  after = λ n above among. passed boundary.offset from (offsets boundaries) n (omega (arith, here)) above among;
  whole = λ n among. contains-later boundary.offset (offsets boundaries) n among;
}
split boundary [] end from rises (inr later) = absurd (contains-nil from later)
split boundary (next ∷ boundaries) end from rises (inr later) =
    let rest = split next boundaries end from rises.1 (contains-cases next.offset (offsets boundaries) from later) in
    let below = rising-above boundary.offset end (offsets (next ∷ boundaries)) (offsets-rise (next ∷ boundaries) boundary.offset end rises) from later in record {
      index = suc rest.index;
      found = rest.found;
      there = rest.there;
      offset = rest.offset;
      after = λ n above among. rest.after n above (passed boundary.offset from (offsets (next ∷ boundaries)) n (omega (arith, below)) above among);
      whole = λ n among. contains-later boundary.offset (offsets (next ∷ boundaries)) n (rest.whole n among);
    }

split-covered : (boundaries : List Boundary) (end from : ℕ) → IsCover 0 end boundaries → Contains (offsets boundaries) from → IsSplit boundaries from
split-covered [] end from cover among = absurd cover
split-covered (boundary ∷ boundaries) end from (first, rises) among =
    split boundary boundaries end from (subst (λ n. RisesTo n boundaries end) (sym first) rises) (contains-cases boundary.offset (offsets boundaries) from among)

shifted-to : (from : ℕ) (boundaries : List Boundary) (n : ℕ) → Contains (offsets (shift_all from boundaries)) (from + n) → Contains (offsets boundaries) n
shifted-to from [] n among = absurd (contains-nil (from + n) among)
shifted-to from (boundary ∷ boundaries) n among =
    on (contains-cases (from + boundary.offset) (offsets (shift_all from boundaries)) (from + n) among) (shifted-to from boundaries n)
  where
    on : (from + boundary.offset ≡ from + n) ⊎ Contains (offsets (shift_all from boundaries)) (from + n)
        → (Contains (offsets (shift_all from boundaries)) (from + n) → Contains (offsets boundaries) n) → Contains (offsets (boundary ∷ boundaries)) n
    on (inl same) more = contains-here boundary.offset (offsets boundaries) n (omega (arith, same))
    on (inr later) more = contains-later boundary.offset (offsets boundaries) n (more later)

shifted-from : (from : ℕ) (boundaries : List Boundary) (n : ℕ) → Contains (offsets boundaries) n → Contains (offsets (shift_all from boundaries)) (from + n)
shifted-from from [] n among = absurd (contains-nil n among)
shifted-from from (boundary ∷ boundaries) n among = on (contains-cases boundary.offset (offsets boundaries) n among) (shifted-from from boundaries n)
  where
    on : (boundary.offset ≡ n) ⊎ Contains (offsets boundaries) n → (Contains (offsets boundaries) n → Contains (offsets (shift_all from boundaries)) (from + n))
        → Contains (offsets (shift_all from (boundary ∷ boundaries))) (from + n)
    on (inl same) more = contains-here (from + boundary.offset) (offsets (shift_all from boundaries)) (from + n) (ap (λ k. from + k) same)
    on (inr later) more = contains-later (from + boundary.offset) (offsets (shift_all from boundaries)) (from + n) (more later)

pub start-among : (boundaries : List Boundary) (end : ℕ) → IsCover 0 end boundaries → Contains (offsets boundaries) 0
start-among [] end cover = absurd cover
start-among (boundary ∷ boundaries) end (first, rises) = contains-here boundary.offset (offsets boundaries) 0 first

but-first : (boundaries : List Boundary) (end : ℕ) → IsCover 0 end boundaries → (n : ℕ) → 0 < n → Contains (offsets boundaries) n
    → Contains (offsets (drop 1 boundaries)) n
but-first [] end cover n some among = absurd cover
but-first (boundary ∷ boundaries) end (first, rises) n some among = passed boundary.offset 0 (offsets boundaries) n (omega (arith, first)) some among

with-first : (boundaries : List Boundary) (n : ℕ) → Contains (offsets (drop 1 boundaries)) n → Contains (offsets boundaries) n
with-first [] n among = among
with-first (boundary ∷ boundaries) n among = contains-later boundary.offset (offsets boundaries) n among

module _ (clusters : Clusters) (cover : (xs : List ℕ) → IsCover 0 (length xs) (clusters xs)) (restart : HasRestart clusters)
    (whole : List ℕ) (from : ℕ) (among : Contains (offsets (clusters whole)) from) where
  parts : IsSplit (clusters whole) from
  parts = split-covered (clusters whole) (length whole) from (cover whole) among

  again : drop (suc parts.index) (clusters whole) ≡ shift_all from (drop 1 (clusters (drop from whole)))
  again = subst (λ n. drop (suc parts.index) (clusters whole) ≡ shift_all n (drop 1 (clusters (drop n whole)))) parts.offset
      (restart whole parts.index parts.found parts.there)

  pub rest-to : (n : ℕ) → Contains (offsets (clusters whole)) (from + n) → Contains (offsets (clusters (drop from whole))) n
  rest-to zero here = start-among (clusters (drop from whole)) (length (drop from whole)) (cover (drop from whole))
  rest-to (suc n) there =
      let after = parts.after (from + suc n) (omega arith) there in
      with-first (clusters (drop from whole)) (suc n)
      (shifted-to from (drop 1 (clusters (drop from whole))) (suc n)
      (subst (λ (boundaries : List Boundary). Contains (offsets boundaries) (from + suc n)) again after))

  pub rest-from : (n : ℕ) → Contains (offsets (clusters (drop from whole))) n → Contains (offsets (clusters whole)) (from + n)
  rest-from zero here = let same : from ≡ from + 0 = omega arith in subst (λ n. Contains (offsets (clusters whole)) n) same among
  rest-from (suc n) there =
      let later = but-first (clusters (drop from whole)) (length (drop from whole)) (cover (drop from whole)) (suc n) (omega arith) there in
      parts.whole (from + suc n)
      (subst (λ (boundaries : List Boundary). Contains (offsets boundaries) (from + suc n)) (sym again)
      (shifted-from from (drop 1 (clusters (drop from whole))) (suc n) later))
