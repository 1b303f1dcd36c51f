-- Places that are kept, in order.
use Rattle.std.proofs.Common.{◌≡◌, ◌≢◌, ◌==◌, ◌↔◌, ℕ, ◌+◌, ◌-◌, ◌%◌, ◌<◌, ◌≤◌, ◌⊎◌, inl, inr, Bool, true, false, cond, List, [], ◌∷◌, ◌++◌, length, get_or, take, drop, set, sym, ap, subst, ◌∙◌, arith, Contains, IsTrue, count_by}
use Rattle.std.proofs.lemmas.Bool.Decides.{eqb_tells}
use Rattle.std.proofs.lemmas.Grind.{common_steps}
use Rattle.std.proofs.lemmas.List.{length-append, length-set, get_or_append_left, get_or_default, get_or-set_other, take_more_set}
use Rattle.std.proofs.Math.Seq.{get_or-append_seam}
use Rattle.std.proofs.lemmas.List.Sums.{sum_by-take-drop}
use Rattle.std.proofs.lemmas.List.Elements.{Contains-append_left, Contains-append_right, Contains-append_cases}
use Rattle.std.specs.List.Sorted.{IsStrictlyIncreasing}
use Rattle.seg_hyphens.specs.Liang.{ArePoints, Hyphenation, IsPoint, IsValue, characters, is_first, edged}
use Rattle.seg_hyphens.specs.Values.{IsChosen}

-- places below one that are kept
pub record AreKept (left right : ℕ) (values word kept : List ℕ) (place : ℕ) : Type 0 where
  pub below : (q : ℕ) → Contains kept q → q < place
  pub chosen : (q : ℕ) → Contains kept q → IsChosen left right values word q
  pub all : (q : ℕ) → q < place → IsChosen left right values word q → Contains kept q
  pub ordered : IsStrictlyIncreasing kept

at : (kept : List ℕ) (k : ℕ) → k < length kept → Contains kept (get_or kept k 0)
at kept k h = (k, h, get_or_default kept k (get_or kept k 0) 0 h)

module _ (left right : ℕ) (values word kept : List ℕ) (place : ℕ) where
  pub kept-none : AreKept left right values word [] 0
  kept-none = record {
    below = λ q h. absurd (omega (arith, h.1));
    chosen = λ q h. absurd (omega (arith, h.1));
    all = λ q h. absurd (omega (arith, h));
    ordered = λ k h. absurd (omega (arith, h));
  }

  last-or : (q : ℕ) → q < place + 1 → (q < place) ⊎ (q ≡ place)
  last-or q h = by (eqb_tells q place) where
    by : (((q == place) ≡ true) × (q ≡ place)) ⊎ (((q == place) ≡ false) × (q ≢ place)) → (q < place) ⊎ (q ≡ place)
    by (inl e) = inr e.1
    by (inr e) = inl (omega (arith, h, e.1))

  one : (q : ℕ) → Contains (place ∷ []) q → q ≡ place
  one q h = let e : h.0 ≡ 0 = omega (arith, h.1) in sym (sym (ap (λ k. get_or (place ∷ []) k q) e) ∙ h.2)

  module _ (k : AreKept left right values word kept place) where
    pub kept-same : (IsChosen left right values word place → ⊥) → AreKept left right values word kept (place + 1)
    kept-same not = record {
      below = λ q h. omega (arith, k.below q h);
      chosen = k.chosen;
      all = λ q h c. all-by q c (last-or q h);
      ordered = k.ordered;
    } where
      all-by : (q : ℕ) → IsChosen left right values word q → (q < place) ⊎ (q ≡ place) → Contains kept q
      all-by q c (inl h) = k.all q h c
      all-by q c (inr e) = absurd (not (subst (IsChosen left right values word) e c))

    ordered-by : (i : ℕ) → i + 1 < length kept + 1 → (i + 1 < length kept) ⊎ (i + 1 ≡ length kept)
        → get_or (kept ++ place ∷ []) i 0 < get_or (kept ++ place ∷ []) (i + 1) 0
    ordered-by i h (inl a) =
        omega (arith, k.ordered i a, get_or_append_left kept (place ∷ []) 0 i (omega (arith, a)), get_or_append_left kept (place ∷ []) 0 (i + 1) a)
    ordered-by i h (inr a) =
        let last : get_or (kept ++ place ∷ []) (i + 1) 0 ≡ place =
        ap (λ j. get_or (kept ++ place ∷ []) j 0) a ∙ get_or-append_seam kept place [] 0 in
        omega (arith, last, get_or_append_left kept (place ∷ []) 0 i (omega (arith, a)), k.below (get_or kept i 0) (at kept i (omega (arith, a))))

    pub kept-more : IsChosen left right values word place → AreKept left right values word (kept ++ place ∷ []) (place + 1)
    kept-more c = record {
      below = λ q h. below-by q (Contains-append_cases kept (place ∷ []) q h);
      chosen = λ q h. chosen-by q (Contains-append_cases kept (place ∷ []) q h);
      all = λ q h d. all-by q d (last-or q h);
      ordered = λ i h. ordered-by i (omega (arith, h, length-append kept (place ∷ []))) (next-or i (omega (arith, h, length-append kept (place ∷ []))));
    } where
      below-by : (q : ℕ) → Contains kept q ⊎ Contains (place ∷ []) q → q < place + 1
      below-by q (inl h) = omega (arith, k.below q h)
      below-by q (inr h) = omega (arith, one q h)

      chosen-by : (q : ℕ) → Contains kept q ⊎ Contains (place ∷ []) q → IsChosen left right values word q
      chosen-by q (inl h) = k.chosen q h
      chosen-by q (inr h) = subst (IsChosen left right values word) (sym (one q h)) c

      all-by : (q : ℕ) → IsChosen left right values word q → (q < place) ⊎ (q ≡ place) → Contains (kept ++ place ∷ []) q
      all-by q d (inl h) = Contains-append_left kept (place ∷ []) q (k.all q h d)
      all-by q d (inr e) =
          Contains-append_right kept (place ∷ []) q (0, omega arith, sym e)

      next-or : (i : ℕ) → i + 1 < length kept + 1 → (i + 1 < length kept) ⊎ (i + 1 ≡ length kept)
      next-or i h = next-by i h (eqb_tells (i + 1) (length kept)) where
        next-by : (i : ℕ) → i + 1 < length kept + 1 → (((i + 1 == length kept) ≡ true) × (i + 1 ≡ length kept)) ⊎ (((i + 1 == length kept) ≡ false) × (i + 1 ≢ length kept))
            → (i + 1 < length kept) ⊎ (i + 1 ≡ length kept)
        next-by i h (inl e) = inr e.1
        next-by i h (inr e) = inl (omega (arith, h, e.1))

-- ---- places that stand before values that were not read

pub record IsKeeping (left right : ℕ) (initial word items : List ℕ) (before count place : ℕ) : Type 0 where
  pub few : count ≤ place
  pub long : length items ≡ length initial
  pub rest : (k : ℕ) → place < k → get_or items k 0 ≡ get_or initial k 0
  pub counted : before ≡ characters (take place word)
  pub kept : AreKept left right initial word (take count items) place

count-split : (p : ℕ → Bool) (xs : List ℕ) (i : ℕ) → count_by p (take i xs) + count_by p (drop i xs) ≡ count_by p xs
count-split p xs i = sum_by-take-drop (λ x. cond (p x) 1 0) xs i

count-more : (p : ℕ → Bool) (xs : List ℕ) (i : ℕ) → i < length xs → count_by p (take (i + 1) xs) ≡ count_by p (take i xs) + cond (p (get_or xs i 0)) 1 0
count-more p xs i h = grind (arith, common_steps)

pub counted-few : (word : List ℕ) (before place : ℕ) → before ≡ characters (take place word) → before ≤ characters word
counted-few word before place e = omega (arith, e, count-split is_first word place)

module _ (left right : ℕ) (initial word items : List ℕ) (before count place all : ℕ) (k : IsKeeping left right initial word items before count place)
    (inside : place < length word) (long : length initial ≡ length word + 3) (total : all ≡ characters word) where
  abbrev Allowed : ℕ → Type 0
  Allowed value = (value % 2 ≡ 1) × (left ≤ before) × (right ≤ all - before)

  -- whether there is a point here, by what was read
  abbrev Tells : Bool → Bool → Type 0
  Tells first is_point =
      ((value : ℕ) × (first ≡ true) × (value ≡ get_or items (place + 1) value) × (IsTrue is_point ↔ Allowed value)) ⊎ ((first ≡ false) × (is_point ≡ false))

  read : (value : ℕ) → value ≡ get_or items (place + 1) value → value ≡ get_or initial (place + 1) 0
  read value e =
      e ∙ get_or_default items (place + 1) value 0 (omega (arith, inside, long, k.long)) ∙ k.rest (place + 1) (omega arith)

  behind : all - before ≡ characters (drop place word)
  behind = omega (arith, total, k.counted, count-split is_first word place)

  is-chosen : (first is_point : Bool) → first ≡ is_first (get_or word place 0) → Tells first is_point → is_point ≡ true → IsChosen left right initial word place
  is-chosen first is_point f (inl t) e =
      let a = t.3.0 e in
      record {
        inside = inside;
        first = sym f ∙ t.1;
        odd = ap (λ v. v % 2) (sym (read t.0 t.2)) ∙ a.0;
        left = omega (arith, a.1, k.counted);
        right = omega (arith, a.2, behind);
      }
  is-chosen first is_point f (inr t) e = cc

  not-chosen : (first is_point : Bool) → first ≡ is_first (get_or word place 0) → Tells first is_point → is_point ≡ false
      → IsChosen left right initial word place → ⊥
  not-chosen first is_point f (inl t) e c =
      let a : IsTrue is_point = t.3.1 (ap (λ v. v % 2) (read t.0 t.2) ∙ c.odd, omega (arith, c.left, k.counted), omega (arith, c.right, behind)) in cc
  not-chosen first is_point f (inr t) e c = let g = c.first in cc

  kept-by : (first is_point : Bool) (items' : List ℕ) (count' : ℕ) → first ≡ is_first (get_or word place 0) → Tells first is_point
      → ((is_point ≡ true) × (items' ≡ set items count place) × (count' ≡ count + 1)) ⊎ ((is_point ≡ false) × (items' ≡ items) × (count' ≡ count))
      → AreKept left right initial word (take count' items') (place + 1)
  kept-by first is_point items' count' f t (inl u) =
      let e : take count items ++ place ∷ [] ≡ take count' items' =
      sym (take_more_set items count place (omega (arith, k.few, k.long, long, inside))) ∙ ap (λ n. take n (set items count place)) (sym u.2) ∙ ap (take count') (sym u.1) in
      subst (λ xs. AreKept left right initial word xs (place + 1)) e
      (kept-more left right initial word (take count items) place k.kept (is-chosen first is_point f t u.0))
  kept-by first is_point items' count' f t (inr u) =
      let e : take count items ≡ take count' items' = ap (λ n. take n items) (sym u.2) ∙ ap (take count') (sym u.1) in
      subst (λ xs. AreKept left right initial word xs (place + 1)) e
      (kept-same left right initial word (take count items) place k.kept (not-chosen first is_point f t u.0))

  rest-by : (is_point : Bool) (items' : List ℕ) (count' : ℕ)
      → ((is_point ≡ true) × (items' ≡ set items count place) × (count' ≡ count + 1)) ⊎ ((is_point ≡ false) × (items' ≡ items) × (count' ≡ count))
      → (count' ≤ place + 1) × (length items' ≡ length initial) × ((n : ℕ) → place + 1 < n → get_or items' n 0 ≡ get_or initial n 0)
  rest-by is_point items' count' (inl u) = (
    omega (arith, k.few, u.2),
    ap length u.1 ∙ length-set items count place ∙ k.long,
    λ n h. ap (λ xs. get_or xs n 0) u.1 ∙ get_or-set_other items count n place 0 (λ e. absurd (omega (arith, e, h, k.few))) ∙ k.rest n (omega (arith, h)),
  )
  rest-by is_point items' count' (inr u) =
      (omega (arith, k.few, u.2), ap length u.1 ∙ k.long, λ n h. ap (λ xs. get_or xs n 0) u.1 ∙ k.rest n (omega (arith, h)))

  counted-by : (first : Bool) (before' : ℕ) → first ≡ is_first (get_or word place 0) → ((first ≡ true) × (before' ≡ before + 1)) ⊎ ((first ≡ false) × (before' ≡ before))
      → before' ≡ characters (take (place + 1) word)
  counted-by first before' f (inl u) =
      let one : cond {A = ℕ} (is_first (get_or word place 0)) 1 0 ≡ 1 = ap (λ b. cond {A = ℕ} b 1 0) (sym f ∙ u.0) in
      omega (arith, u.1, one, k.counted, count-more is_first word place inside)
  counted-by first before' f (inr u) =
      let none : cond {A = ℕ} (is_first (get_or word place 0)) 1 0 ≡ 0 = ap (λ b. cond {A = ℕ} b 1 0) (sym f ∙ u.0) in
      omega (arith, u.1, none, k.counted, count-more is_first word place inside)

  pub keep-step : (first is_point : Bool) (items' : List ℕ) (before' count' : ℕ) → first ≡ is_first (get_or word place 0) → Tells first is_point
      → ((is_point ≡ true) × (items' ≡ set items count place) × (count' ≡ count + 1)) ⊎ ((is_point ≡ false) × (items' ≡ items) × (count' ≡ count))
      → ((first ≡ true) × (before' ≡ before + 1)) ⊎ ((first ≡ false) × (before' ≡ before))
      → IsKeeping left right initial word items' before' count' (place + 1)
  keep-step first is_point items' before' count' f t u v =
      let r = rest-by is_point items' count' u in
      record { few = r.0; long = r.1; rest = r.2; counted = counted-by first before' f v; kept = kept-by first is_point items' count' f t u }

pub kept-are : (left right : ℕ) (initial word items : List ℕ) (before count end : ℕ) → IsKeeping left right initial word items before count end → length word ≤ end
    → (place : ℕ) → Contains (take count items) place ↔ IsChosen left right initial word place
kept-are left right initial word items before count end k e place = (k.kept.chosen place, λ c. k.kept.all place (omega (arith, e, c.inside)) c)

-- ---- the points

at-most-value : (hyphenation : Hyphenation) (letters : List ℕ) (place v w : ℕ) → IsValue hyphenation.patterns letters place v → IsValue hyphenation.patterns letters place w
    → (0 < v) ⊎ (v ≡ 0) → v ≤ w
at-most-value hyphenation letters place v w a b (inl h) = b.greatest v (a.is h)
at-most-value hyphenation letters place v w a b (inr h) = omega (arith, h)

pub some-or : (v : ℕ) → (0 < v) ⊎ (v ≡ 0)
some-or v = by (eqb_tells v 0) where
  by : (((v == 0) ≡ true) × (v ≡ 0)) ⊎ (((v == 0) ≡ false) × (v ≢ 0)) → (0 < v) ⊎ (v ≡ 0)
  by (inl e) = inr e.1
  by (inr e) = inl (omega (arith, e.1))

same-value : (hyphenation : Hyphenation) (letters : List ℕ) (place v w : ℕ) → IsValue hyphenation.patterns letters place v → IsValue hyphenation.patterns letters place w → v ≡ w
same-value hyphenation letters place v w a b =
    omega (arith, at-most-value hyphenation letters place v w a b (some-or v), at-most-value hyphenation letters place w v b a (some-or w))

module _ (hyphenation : Hyphenation) (left right : ℕ) (values word points : List ℕ) (lefts : hyphenation.left ≡ left) (rights : hyphenation.right ≡ right)
    (are : (place : ℕ) → place < length word + 3 → IsValue hyphenation.patterns (edged word) place (get_or values place 0)) where
  point-of : (place : ℕ) → IsChosen left right values word place → IsPoint hyphenation word place
  point-of place c = record {
    inside = c.inside;
    first = c.first;
    value = get_or values (place + 1) 0;
    is = are (place + 1) (omega (arith, c.inside));
    odd = c.odd;
    left = omega (arith, c.left, lefts);
    right = omega (arith, c.right, rights);
  }

  chosen-of : (place : ℕ) → IsPoint hyphenation word place → IsChosen left right values word place
  chosen-of place p =
      let same : p.value ≡ get_or values (place + 1) 0 =
      same-value hyphenation (edged word) (place + 1) p.value (get_or values (place + 1) 0) p.is (are (place + 1) (omega (arith, p.inside))) in
      record {
        inside = p.inside;
        first = p.first;
        odd = ap (λ v. v % 2) (sym same) ∙ p.odd;
        left = omega (arith, p.left, lefts);
        right = omega (arith, p.right, rights);
      }

  pub points-are : ((place : ℕ) → Contains points place ↔ IsChosen left right values word place) → IsStrictlyIncreasing points → ArePoints hyphenation word points
  points-are chosen ordered = record {
    are = λ place. (λ h. point-of place ((chosen place).0 h), λ p. (chosen place).1 (chosen-of place p));
    ordered = ordered;
  }

-- a slice that is written back as it is
pub written-back : (xs items : List ℕ) (len : ℕ) → length xs ≡ length items → len ≡ length items → take len (xs ++ drop (length xs) items) ≡ xs
written-back xs items len e h = grind (arith, common_steps)
