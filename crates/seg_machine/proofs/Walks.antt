-- Walks on symbol 0: a long one comes back to a state, and where none does, each ends.
use Rattle.std.proofs.Common.{◌≡◌, ℕ, zero, suc, ◌+◌, ◌-◌, ◌*◌, ◌<◌, ◌≤◌, ◌⊎◌, ltb, cond, true, false, length, replicate, refl, sym, ap, ◌∙◌, inl, inr, arith}
use Rattle.std.specs.Prelude.{Option, Some, None, IfSome}
use Rattle.std.specs.Option.{is_some, option_map_or}
use Rattle.std.proofs.lemmas.Bool.{both_ways, cases_lt, cases_eq, cond-true, cond-false, lt-ltb, le-ltb}
use Rattle.std.proofs.lemmas.Option.{none-some, same_Some}
use Rattle.seg_data.proofs.Options.{option-cases}
use Rattle.seg_machine.specs.Machine.{Machine, step, run, state_after_ends}
use Rattle.seg_machine.specs.MachineFaults.{HasEndCycle}
use Rattle.seg_machine.proofs.Transitions.{leads-to}

pub walk-next : (m : Machine) (q next steps : ℕ) → step m q 0 ≡ Some next → state_after_ends m q (suc steps) ≡ state_after_ends m next steps
unfolding state_after_ends
walk-next m q next steps leads = rw leads refl

pub walk-end : (m : Machine) (q steps : ℕ) → step m q 0 ≡ None → state_after_ends m q (suc steps) ≡ None
unfolding state_after_ends
walk-end m q steps ends = rw ends refl

walk-zero : (m : Machine) (q : ℕ) → state_after_ends m q 0 ≡ Some q
unfolding state_after_ends
walk-zero m q = refl

-- a state_after_ends, and then one from where it ends
pub walk-add : (m : Machine) (q a b r : ℕ) → state_after_ends m q a ≡ Some r → state_after_ends m q (a + b) ≡ state_after_ends m r b
walk-add m q zero b r is =
    let same : q ≡ r = same_Some q r (sym (walk-zero m q) ∙ is) in
    let none : zero + b ≡ b = omega arith in
    rw (none, same) refl
walk-add m q (suc a) b r is =
    let one : suc a + b ≡ suc (a + b) = omega arith in
    elim (option-cases (step m q 0)) [
      | inl ends ↦ absurd (none-some r (sym (walk-end m q a ends) ∙ is))
      | inr (next, leads) ↦ rw one (walk-next m q next (a + b) leads ∙ walk-add m next a b r (sym (walk-next m q next a leads) ∙ is))
    ]

-- where a state_after_ends leads on, so does a shorter one
pub walk-before : (m : Machine) (q a b r : ℕ) → state_after_ends m q (a + b) ≡ Some r → (p : ℕ) × (state_after_ends m q a ≡ Some p)
walk-before m q zero b r is = (q, walk-zero m q)
walk-before m q (suc a) b r is =
    let one : suc a + b ≡ suc (a + b) = omega arith in
    let long : state_after_ends m q (suc (a + b)) ≡ Some r = ap (state_after_ends m q) (sym one) ∙ is in
    elim (option-cases (step m q 0)) [
      | inl ends ↦ absurd (none-some r (sym (walk-end m q (a + b) ends) ∙ long))
      | inr (next, leads) ↦
          let before = walk-before m next a b r (sym (walk-next m q next (a + b) leads) ∙ long) in
          (before.0, walk-next m q next a leads ∙ before.1)
    ]

-- symbol 0 leads from each state to a state
abbrev pub EndsInRange : Machine → Type 0
EndsInRange m = (state : ℕ) → state < length m.states → IfSome (step m state 0) (λ next. next < length m.states)

walk-within : (m : Machine) (q a r : ℕ) → EndsInRange m → q < length m.states → state_after_ends m q a ≡ Some r → r < length m.states
walk-within m q zero r range here is = let same : q ≡ r = same_Some q r (sym (walk-zero m q) ∙ is) in omega arith
walk-within m q (suc a) r range here is =
    elim (option-cases (step m q 0)) [
      | inl ends ↦ absurd (none-some r (sym (walk-end m q a ends) ∙ is))
      | inr (next, leads) ↦ walk-within m next a r range (leads-to m q 0 next leads (range q here)) (sym (walk-next m q next a leads) ∙ is)
    ]

-- a round, again and again
walk-round : (m : Machine) (q round k : ℕ) → state_after_ends m q round ≡ Some q → state_after_ends m q (k * round) ≡ Some q
walk-round m q round zero is = let none : zero * round ≡ 0 = omega arith in rw none (walk-zero m q)
walk-round m q round (suc k) is =
    let more : suc k * round ≡ round + k * round = omega arith in
    rw more (walk-add m q round (k * round) q is ∙ walk-round m q round k is)

some-is : {X : Type 0} (found : Option X) (x : X) → found ≡ Some x → is_some found ≡ true
some-is found x is = rw is refl

-- from a state on a cycle symbol 0 leads on without end
pub cycle-leads : (m : Machine) (q steps n : ℕ) → state_after_ends m q (suc steps) ≡ Some q → is_some (state_after_ends m q n) ≡ true
cycle-leads m q steps n round =
    let long : n * suc steps ≡ n + n * steps = omega arith in
    let before = walk-before m q n (n * steps) q (ap (state_after_ends m q) (sym long) ∙ walk-round m q (suc steps) n round) in
    some-is (state_after_ends m q n) before.0 before.1

-- is the value among the first n
among : (n : ℕ) (f : ℕ → ℕ) (v : ℕ) → ((i : ℕ) × (i < n) × (f i ≡ v)) ⊎ ((i : ℕ) → i < n → f i ≡ v → ⊥)
among zero f v = inr (λ i less is. omega arith)
among (suc n) f v =
    elim (cases_eq (f n) v) [
      | inl is ↦ inl (n, omega arith, is)
      | inr not ↦ elim (among n f v) [
        | inl (i, less, is) ↦ inl (i, omega arith, is)
        | inr none ↦ inr (λ i less is. elim (cases_eq i n) [
          | inl last ↦ not (ap f (sym last) ∙ is)
          | inr before ↦ none i (omega arith) is
        ])
      ]
    ]

-- a number other than `top`, with `top` left out of the count
abbrev squeeze : ℕ → ℕ → ℕ
squeeze top x = cond (ltb top x) (x - 1) x

squeeze-cases : (top x : ℕ) → (x ≡ top → ⊥) → ((x < top) × (squeeze top x ≡ x)) ⊎ ((top < x) × (squeeze top x ≡ x - 1))
squeeze-cases top x other =
    elim (cases_lt top x) [
      | inl above ↦ inr (above, cond-true (ltb top x) (x - 1) x (lt-ltb top x above))
      | inr least ↦ inl (omega arith, cond-false (ltb top x) (x - 1) x (le-ltb top x least))
    ]

squeeze-below : (top x n : ℕ) → (x ≡ top → ⊥) → top < suc n → x < suc n → squeeze top x < n
squeeze-below top x n other here below = elim (squeeze-cases top x other) [ inl (less, is) ↦ omega arith | inr (more, is) ↦ omega arith ]

squeeze-same : (top x y : ℕ) → (x ≡ top → ⊥) → (y ≡ top → ⊥) → squeeze top x ≡ squeeze top y → x ≡ y
squeeze-same top x y other another same =
    elim (squeeze-cases top x other) [
      | inl (less, is) ↦ elim (squeeze-cases top y another) [ inl (less2, is2) ↦ omega arith | inr (more2, is2) ↦ omega arith ]
      | inr (more, is) ↦ elim (squeeze-cases top y another) [ inl (less2, is2) ↦ omega arith | inr (more2, is2) ↦ omega arith ]
    ]

-- of more numbers than there are values two are the same
two-same : (n : ℕ) (f : ℕ → ℕ) → ((k : ℕ) → k < suc n → f k < n) → (i j : ℕ) × (i < j) × (j < suc n) × (f i ≡ f j)
two-same zero f below = let none = below 0 (omega arith) in absurd (omega arith)
two-same (suc n) f below =
    elim (among (suc n) f (f (suc n))) [
      | inl (i, less, is) ↦ (i, suc n, less, omega arith, is)
      | inr other ↦
          let top = f (suc n) in
          let fewer : (k : ℕ) → k < suc n → squeeze top (f k) < n = λ k less. squeeze-below top (f k) n (other k less) (below (suc n) (omega arith)) (below k (omega arith)) in
          let (i, j, less, within, same) = two-same n (λ k. squeeze top (f k)) fewer in
          (i, j, less, omega arith, squeeze-same top (f i) (f j) (other i (omega arith)) (other j within) same)
    ]

-- where the state_after_ends is, or 0
abbrev place : Machine → ℕ → ℕ → ℕ
place m q k = option_map_or (λ x. x) (state_after_ends m q k) 0

placed : (m : Machine) (q n r k : ℕ) → state_after_ends m q n ≡ Some r → k < suc n → (p : ℕ) × (state_after_ends m q k ≡ Some p) × (place m q k ≡ p)
placed m q n r k is less =
    let whole : n ≡ k + (n - k) = omega arith in
    let before = walk-before m q k (n - k) r (ap (state_after_ends m q) (sym whole) ∙ is) in
    (before.0, before.1, ap (λ found. option_map_or (λ x. x) found 0) before.1)

-- a state_after_ends of as many steps as there are states comes back to a state
pub long-cycle : (m : Machine) (q r : ℕ) → EndsInRange m → q < length m.states → state_after_ends m q (length m.states) ≡ Some r → HasEndCycle m
long-cycle m q r range here is =
    let n = length m.states in
    let below : (k : ℕ) → k < suc n → place m q k < n = λ k less.
    let (p, at, same) = placed m q n r k is less in
    rw same (walk-within m q k p range here at) in
    let (i, j, less, within, same) = two-same n (place m q) below in
    let (p, at, there) = placed m q n r i is (omega arith) in
    let (p2, at2, there2) = placed m q n r j is within in
    let again : p2 ≡ p = sym there2 ∙ sym same ∙ there in
    let apart : j ≡ i + suc (j - suc i) = omega arith in
    let back : state_after_ends m p (suc (j - suc i)) ≡ Some p2 = sym (walk-add m q i (suc (j - suc i)) p at) ∙ ap (state_after_ends m q) (sym apart) ∙ at2 in
    (p, j - suc i, walk-within m q i p range here at, back ∙ ap Some again)

-- a state_after_ends that ends before some steps gives fewer states
run-short : (m : Machine) (q k : ℕ) → state_after_ends m q k ≡ None → length (run m q (replicate k 0)) < k
unfolding run
run-short m q zero is = absurd (none-some q (sym is ∙ walk-zero m q))
run-short m q (suc k) is =
    elim (option-cases (step m q 0)) [
      | inl ends ↦ rw ends (omega arith)
      | inr (next, leads) ↦
          let less = run-short m next k (sym (walk-next m q next k leads) ∙ is) in
          rw leads (omega (arith, less))
    ]

pub ends-from : (m : Machine) → EndsInRange m → (HasEndCycle m → ⊥) → (state : ℕ) → state < length m.states
    → length (run m state (replicate (length m.states) 0)) < length m.states
ends-from m range none state here =
    elim (option-cases (state_after_ends m state (length m.states))) [
      | inl ends ↦ run-short m state (length m.states) ends
      | inr (r, is) ↦ absurd (none (long-cycle m state r range here is))
    ]

-- the steps of a state_after_ends, with so many of them done

steps-more : (n k : ℕ) → k < n → n - k ≡ suc (n - (k + 1))
steps-more n k less = omega arith

pub steps-end : (m : Machine) (q n k : ℕ) (all : Option ℕ) → step m q 0 ≡ None → k < n → state_after_ends m q (n - k) ≡ all → false ≡ is_some all
steps-end m q n k all ends less is = ap is_some (sym (walk-end m q (n - (k + 1)) ends) ∙ sym (ap (state_after_ends m q) (steps-more n k less)) ∙ is)

pub steps-next : (m : Machine) (q next n k : ℕ) (all : Option ℕ) → step m q 0 ≡ Some next → k < n → state_after_ends m q (n - k) ≡ all → state_after_ends m next (n - (k + 1)) ≡ all
steps-next m q next n k all leads less is = sym (walk-next m q next (n - (k + 1)) leads) ∙ sym (ap (state_after_ends m q) (steps-more n k less)) ∙ is

pub steps-all : (m : Machine) (q n k : ℕ) (all : Option ℕ) → n ≤ k → state_after_ends m q (n - k) ≡ all → true ≡ is_some all
steps-all m q n k all past is =
    let none : n - k ≡ 0 = omega arith in
    ap is_some (sym (walk-zero m q) ∙ sym (ap (state_after_ends m q) none) ∙ is)

-- a state from which symbol 0 leads on is there just where there is a cycle
pub cycle-from : (m : Machine) (q : ℕ) → EndsInRange m → q < length m.states → is_some (state_after_ends m q (length m.states)) ≡ true → HasEndCycle m
cycle-from m q range here on =
    elim (option-cases (state_after_ends m q (length m.states))) [
      | inl none ↦ absurd (both_ways (is_some (state_after_ends m q (length m.states))) (ap is_some none) on)
      | inr (r, is) ↦ long-cycle m q r range here is
    ]

pub cycle-none : (m : Machine) → ((q : ℕ) → q < length m.states → is_some (state_after_ends m q (length m.states)) ≡ false) → HasEndCycle m → ⊥
cycle-none m ends (q, steps, here, round) =
    both_ways (is_some (state_after_ends m q (length m.states))) (ends q here) (cycle-leads m q steps (length m.states) round)
