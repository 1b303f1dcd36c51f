-- Numbers within bounds: in order, and those of a kind.
use Rattle.std.proofs.Common.{◌≡◌, refl, ℕ, ◌+◌, ◌-◌, ◌<◌, ◌≤◌, ◌⊎◌, inl, inr, List, [], ◌∷◌, ◌++◌, length, get_or, map, sym, ap, subst, ◌∙◌, arith, Contains}
use Rattle.std.proofs.lemmas.Bool.{cases_lt}
use Rattle.std.proofs.lemmas.List.{length-append, length-map, get_or_append_left, get_or-append_right, get_or_default, get_or-map}
use Rattle.std.proofs.lemmas.List.Elements.{All-append, All-cons, All-contains, All-map, All-nil, All-weaker, Contains-append_left, Contains-append_right, Contains-append_cases}
use Rattle.std.specs.List.Sorted.{IsStrictlyIncreasing}
use Rattle.seg_hyphens.specs.Words.{AreRising, AreThose}

element : (xs : List ℕ) (k : ℕ) → k < length xs → Contains xs (get_or xs k 0)
element xs k h = (k, h, get_or_default xs k (get_or xs k 0) 0 h)

-- two lists in order, the second of which is above the first
ordered-append : (mid : ℕ) (xs ys : List ℕ) → IsStrictlyIncreasing xs → IsStrictlyIncreasing ys
    → ((n : ℕ) → Contains xs n → n < mid) → ((n : ℕ) → Contains ys n → mid ≤ n) → IsStrictlyIncreasing (xs ++ ys)
ordered-append mid xs ys a b below above k h = by (cases_lt (k + 1) (length xs)) (cases_lt k (length xs)) where
  inside : k + 1 < length xs + length ys
  inside = omega (arith, h, length-append xs ys)

  by : (k + 1 < length xs) ⊎ (length xs ≤ k + 1) → (k < length xs) ⊎ (length xs ≤ k) → get_or (xs ++ ys) k 0 < get_or (xs ++ ys) (k + 1) 0
  by (inl p) q =
      rw (get_or_append_left xs ys 0 k (omega (arith, p)), get_or_append_left xs ys 0 (k + 1) p) (a k p)
  by (inr p) (inl q) =
      rw (get_or_append_left xs ys 0 k q, get_or-append_right xs ys (length xs) (k + 1) 0 refl p)
      (omega (arith, below (get_or xs k 0) (element xs k q), above (get_or ys (k + 1 - length xs) 0) (element ys (k + 1 - length xs) (omega (arith, inside, p)))))
  by (inr p) (inr q) =
      let next : (k + 1) - length xs ≡ (k - length xs) + 1 = omega (arith, q) in
      rw (get_or-append_right xs ys (length xs) k 0 refl q, get_or-append_right xs ys (length xs) (k + 1) 0 refl p, next)
      (b (k - length xs) (omega (arith, inside, q)))

pub rising-none : (low high : ℕ) → AreRising low high []
rising-none low high = record { within = All-nil (λ n. (low ≤ n) × (n < high)); ordered = λ k h. absurd (omega (arith, h)) }

-- the bounds may be further apart
pub rising-wider : (low high from to : ℕ) (xs : List ℕ) → from ≤ low → high ≤ to → AreRising low high xs → AreRising from to xs
rising-wider low high from to xs a b r = record {
  within = All-weaker (λ n. (low ≤ n) × (n < high)) (λ n. (from ≤ n) × (n < to)) (λ n h. (omega (arith, a, h.0), omega (arith, b, h.1))) xs r.within;
  ordered = r.ordered;
}

pub rising-append : (low mid high : ℕ) (xs ys : List ℕ) → low ≤ mid → mid ≤ high → AreRising low mid xs → AreRising mid high ys
    → AreRising low high (xs ++ ys)
rising-append low mid high xs ys a b r t = record {
  within = All-append (λ n. (low ≤ n) × (n < high)) xs ys
      (All-weaker (λ n. (low ≤ n) × (n < mid)) (λ n. (low ≤ n) × (n < high)) (λ n h. (h.0, omega (arith, b, h.1))) xs r.within)
      (All-weaker (λ n. (mid ≤ n) × (n < high)) (λ n. (low ≤ n) × (n < high)) (λ n h. (omega (arith, a, h.0), h.1)) ys t.within);
  ordered = ordered-append mid xs ys r.ordered t.ordered (λ n h. (All-contains (λ n. (low ≤ n) × (n < mid)) xs n r.within h).1)
      (λ n h. (All-contains (λ n. (mid ≤ n) × (n < high)) ys n t.within h).0);
}

pub rising-more : (low n : ℕ) (xs : List ℕ) → low ≤ n → AreRising low n xs → AreRising low (n + 1) (xs ++ n ∷ [])
rising-more low n xs h r = rising-append low n (n + 1) xs (n ∷ []) h (omega arith) r (record {
  within = All-cons (λ m. (n ≤ m) × (m < n + 1)) n [] (omega arith, omega arith) (All-nil (λ m. (n ≤ m) × (m < n + 1)));
  ordered = λ k h. absurd (omega (arith, h));
})

-- so much further on
pub rising-shifted : (n low high : ℕ) (xs : List ℕ) → AreRising low high xs → AreRising (n + low) (n + high) (map (λ m. n + m) xs)
rising-shifted n low high xs r = record {
  within = All-map (λ m. (n + low ≤ m) × (m < n + high)) (λ m. n + m) xs
      (All-weaker (λ m. (low ≤ m) × (m < high)) (λ m. (n + low ≤ n + m) × (n + m < n + high)) (λ m h. (omega (arith, h.0), omega (arith, h.1))) xs r.within);
  ordered = λ k h. let inside : k + 1 < length xs = omega (arith, h, length-map xs (λ m. n + m)) in
      omega (arith, r.ordered k inside, get_or-map (λ m. n + m) xs k 0 0 (omega (arith, inside)), get_or-map (λ m. n + m) xs (k + 1) 0 0 inside);
}

module _ (Is : ℕ → Type 0) where
  pub those-none : (low : ℕ) → AreThose Is low low []
  those-none low = record {
    are = λ n h. absurd (omega (arith, h.1));
    all = λ n a b is. absurd (omega (arith, a, b));
  }

  pub those-append : (low mid high : ℕ) (xs ys : List ℕ) → AreThose Is low mid xs → AreThose Is mid high ys → AreThose Is low high (xs ++ ys)
  those-append low mid high xs ys p q = record {
    are = λ n h. from n (Contains-append_cases xs ys n h);
    all = λ n a b is. to n a b is (cases_lt n mid);
  } where
    from : (n : ℕ) → Contains xs n ⊎ Contains ys n → Is n
    from n (inl h) = p.are n h
    from n (inr h) = q.are n h

    to : (n : ℕ) → low ≤ n → n < high → Is n → (n < mid) ⊎ (mid ≤ n) → Contains (xs ++ ys) n
    to n a b is (inl c) = Contains-append_left xs ys n (p.all n a c is)
    to n a b is (inr c) = Contains-append_right xs ys n (q.all n c b is)

  -- one more, which is so
  pub those-more : (low n : ℕ) (xs : List ℕ) → AreThose Is low n xs → Is n → AreThose Is low (n + 1) (xs ++ n ∷ [])
  those-more low n xs p is = those-append low n (n + 1) xs (n ∷ []) p (record {
    are = λ m h. let first : h.0 ≡ 0 = omega (arith, h.1) in subst Is (sym (ap (λ k. get_or (n ∷ []) k m) first) ∙ h.2) is;
    all = λ m a b h. (0, omega arith, omega (arith, a, b));
  })

  -- more, which aren't
  pub those-skip : (low n high : ℕ) (xs : List ℕ) → AreThose Is low n xs → ((m : ℕ) → n ≤ m → m < high → Is m → ⊥) → AreThose Is low high xs
  those-skip low n high xs p none = record { are = p.are; all = λ m a b is. to m a b is (cases_lt m n) } where
    to : (m : ℕ) → low ≤ m → m < high → Is m → (m < n) ⊎ (n ≤ m) → Contains xs m
    to m a b is (inl c) = p.all m a c is
    to m a b is (inr c) = absurd (none m c b is)

-- what is so is so by another name
pub those-same : (Is Also : ℕ → Type 0) (low high : ℕ) (xs : List ℕ) → ((n : ℕ) → Is n → Also n) → ((n : ℕ) → n < high → Also n → Is n)
    → AreThose Is low high xs → AreThose Also low high xs
those-same Is Also low high xs to from p = record {
  are = λ n h. to n (p.are n h);
  all = λ n a b is. p.all n a b (from n b is);
}

-- so much further on
pub those-shifted : (Is : ℕ → Type 0) (n count : ℕ) (xs : List ℕ) → AreThose (λ m. Is (n + m)) 0 count xs → AreThose Is n (n + count) (map (λ m. n + m) xs)
those-shifted Is n count xs p = record {
  are = λ m h. let inside : h.0 < length xs = omega (arith, h.1, length-map xs (λ m. n + m)) in
      let is : n + get_or xs h.0 0 ≡ m = sym (get_or-map (λ m. n + m) xs h.0 0 m inside) ∙ h.2 in
      subst Is is (p.are (get_or xs h.0 0) (element xs h.0 inside));
  all = λ m a b g. let is : n + (m - n) ≡ m = omega (arith, a) in
      let h = p.all (m - n) (omega arith) (omega (arith, a, b)) (subst Is (sym is) g) in
      (h.0, omega (arith, h.1, length-map xs (λ m. n + m)), get_or-map (λ m. n + m) xs h.0 (m - n) m h.1 ∙ ap (λ m. n + m) h.2 ∙ is);
}
