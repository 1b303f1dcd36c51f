-- Places that are put later.
use Rattle.std.proofs.Common.{◌≡◌, ℕ, zero, suc, ◌+◌, ◌<◌, ◌≤◌, ◌^◌, List, [], ◌∷◌, ◌++◌, take, drop, map, set, length, slice_index, min, refl, sym, ap, ◌∙◌, arith}
use Rattle.std.proofs.lemmas.List.{length-map, take-map}
use Rattle.icu_segmenter.specs.Boundary.{Boundary}
use Rattle.icu_segmenter.specs.Filled.{TakesFirst, statuses}
use Rattle.icu_segmenter.proofs.Given.{AreUpTo}

-- as far as an index they were changed
abbrev pub put_up_to : (ℕ → ℕ) → List ℕ → ℕ → List ℕ
put_up_to change old index = map change (take index old) ++ drop index old

module _ (change : ℕ → ℕ) where
  read-on : (index : ℕ) (old : List ℕ) → index < length old → slice_index (put_up_to change old index) index ≡ slice_index old index
  read-on index [] inside = absurd (omega (arith, inside))
  read-on zero (place ∷ old) inside = refl
  read-on (suc index) (place ∷ old) inside = read-on index old (omega (arith, inside))

  written-on : (index : ℕ) (old : List ℕ) → index < length old → set (put_up_to change old index) index (change (slice_index old index)) ≡ put_up_to change old (suc index)
  written-on index [] inside = absurd (omega (arith, inside))
  written-on zero (place ∷ old) inside = refl
  written-on (suc index) (place ∷ old) inside = ap (λ (places : List ℕ). change place ∷ places) (written-on index old (omega (arith, inside)))

  -- what stands at the index yet
  pub not-yet : (index : ℕ) (old now : List ℕ) → now ≡ put_up_to change old index → index < length old → slice_index now index ≡ slice_index old index
  not-yet index old now is inside = ap (λ (places : List ℕ). slice_index places index) is ∙ read-on index old inside

  -- one more is changed
  pub put-more : (index : ℕ) (old now : List ℕ) → now ≡ put_up_to change old index → index < length old
      → set now index (change (slice_index now index)) ≡ put_up_to change old (index + 1)
  put-more index old now is inside =
      let next : suc index ≡ index + 1 = omega arith in
      let here = not-yet index old now is inside in
      ap (λ (place : ℕ). set now index (change place)) here ∙ ap (λ (places : List ℕ). set places index (change (slice_index old index))) is
      ∙ written-on index old inside ∙ ap (put_up_to change old) next

up-to-at : (end k : ℕ) (places : List ℕ) → AreUpTo end places → k < length places → slice_index places k ≤ end
unfolding AreUpTo
up-to-at end k [] up inside = absurd (omega (arith, inside))
up-to-at end zero (place ∷ places) up inside = up.0
up-to-at end (suc k) (place ∷ places) up inside = up-to-at end k places up.1 (omega (arith, inside))

taken-at : (all ys : List ℕ) (count k : ℕ) → k < count → count ≤ length all → slice_index (take count all ++ ys) k ≡ slice_index all k
taken-at [] ys count k less some = absurd (omega (arith, less, some))
taken-at (x ∷ all) ys zero k less some = absurd (omega (arith, less))
taken-at (x ∷ all) ys (suc count) zero less some = refl
taken-at (x ∷ all) ys (suc count) (suc k) less some = taken-at all ys count k (omega (arith, less)) (omega (arith, some))

-- what was written of places up to an end fits
pub written-fit : (from end room : ℕ) (all old new : List ℕ) (count : ℕ) → from + end < 2 ^ 64 → AreUpTo end all → TakesFirst room all old new count
    → (k : ℕ) → k < count → from + slice_index new k < 2 ^ 64
written-fit from end room all old new count fits up taken k less =
    let some : count ≤ length all = omega (arith, taken.few) in
    let here : slice_index new k ≡ slice_index all k = ap (λ (places : List ℕ). slice_index places k) taken.first ∙ taken-at all (drop count old) count k less some in
    omega (arith, fits, here, up-to-at end k all up (omega (arith, less, some)))

taken-first : (count : ℕ) (xs ys : List ℕ) → count ≤ length xs → take count (take count xs ++ ys) ≡ take count xs
taken-first zero xs ys some = refl
taken-first (suc count) [] ys some = absurd (omega (arith, some))
taken-first (suc count) (x ∷ xs) ys some = ap (λ (later : List ℕ). x ∷ later) (taken-first count xs ys (omega (arith, some)))

rest-of : (count : ℕ) (xs ys : List ℕ) → count ≤ length xs → drop count (take count xs ++ ys) ≡ ys
rest-of zero xs ys some = refl
rest-of (suc count) [] ys some = absurd (omega (arith, some))
rest-of (suc count) (x ∷ xs) ys some = rest-of count xs ys (omega (arith, some))

pub first-taken : (room : ℕ) (all old new : List ℕ) (count : ℕ) → TakesFirst room all old new count → take count new ≡ take count all
first-taken room all old new count taken =
    ap (take count) taken.first ∙ taken-first count all (drop count old) (omega (arith, taken.few))

-- what was written is changed
pub filled-changed : (change : ℕ → ℕ) (room : ℕ) (all old mid new : List ℕ) (count : ℕ) → TakesFirst room all old mid count → new ≡ map change (take count mid) ++ drop count mid
    → TakesFirst room (map change all) old new count
filled-changed change room all old mid new count taken put =
    let some : count ≤ length all = omega (arith, taken.few) in
    record {
      few = taken.few ∙ ap (λ (n : ℕ). min n room) (sym (length-map all change));
      first =
          put ∙ ap (λ (places : List ℕ). map change places ++ drop count mid) (first-taken room all old mid count taken)
          ∙ ap (λ (places : List ℕ). places ++ drop count mid) (sym (take-map change count all))
          ∙ ap (λ (rest : List ℕ). take count (map change all) ++ rest) (ap (drop count) taken.first ∙ rest-of count all (drop count old) some);
    }

-- statuses, as numbers of what they say
pub numbers-of : (number : ℕ → ℕ) (boundaries : List Boundary) → map number (statuses boundaries) ≡ map (λ (found : Boundary). number found.status) boundaries
numbers-of number [] = refl
numbers-of number (found ∷ boundaries) = ap (λ (numbers : List ℕ). number found.status ∷ numbers) (numbers-of number boundaries)
