-- Chains of verdicts.
use Rattle.std.proofs.Common.{◌≡◌, ◌≢◌, ℕ, zero, suc, ◌+◌, ◌<◌, ◌≤◌, List, [], ◌∷◌, length, drop, refl, sym, ap, ◌∙◌, subst, arith}
use Rattle.std.proofs.lemmas.List.{length-drop, drop-drop}
use Rattle.seg_pairs.specs.Verdict.{Verdict, go_on, chain_within, chain, TakesOf, IsForward, HasNoRun}
use Rattle.seg_pairs.specs.Verdict.Verdict.{BreakAfter, GoAfter, RunBegins}

-- what is left after some, but not all
pub record Left {X : Type 0} (n : ℕ) (xs : List X) : Type 0 where
  pub first : X
  pub others : List X
  pub same : drop n xs ≡ first ∷ others
  pub fewer : n + length (first ∷ others) ≡ length xs

pub left-after : {X : Type 0} (n : ℕ) (xs : List X) → n < length xs → Left n xs
left-after {X} n xs less = on (drop n xs) refl
  where
    on : (rest : List X) → drop n xs ≡ rest → Left n xs
    on [] is = absurd (let long = length-drop n xs in let none = ap length is in omega (arith, long, none))
    on (x ∷ others) is = record {
      first = x;
      others = others;
      same = is;
      fewer = let long = length-drop n xs in let some = ap length is in omega (arith, long, some);
    }

pub go_on-same : (f g : ℕ → ℕ × Verdict) (is : Verdict) → ((n : ℕ) → is ≡ GoAfter n → f n ≡ g n) → go_on f is ≡ go_on g is
go_on-same f g (BreakAfter n class) same = refl
go_on-same f g RunBegins same = refl
go_on-same f g (GoAfter n) same = ap (λ (found : ℕ × Verdict). (n + found.0, found.1)) (same n refl)

module _ {X : Type 0} (v : List X → Verdict) (forward : IsForward v) where
  takes : (x : X) (xs : List X) (is : Verdict) → v (x ∷ xs) ≡ is → TakesOf (length (x ∷ xs)) is
  takes x xs is same = subst (TakesOf (length (x ∷ xs))) same (forward x xs)

  -- more than the elements that there are is no matter
  chain-more : (most more : ℕ) (x : X) (xs : List X) → length (x ∷ xs) ≤ most → length (x ∷ xs) ≤ more → chain_within v most (x ∷ xs) ≡ chain_within v more (x ∷ xs)
  unfolding chain_within
  chain-more zero more x xs bound other = absurd (omega arith)
  chain-more (suc most) zero x xs bound other = absurd (omega arith)
  chain-more (suc most) (suc more) x xs bound other =
      go_on-same (λ n. chain_within v most (drop n (x ∷ xs))) (λ n. chain_within v more (drop n (x ∷ xs))) (v (x ∷ xs))
      (λ n is.
      let bounds = takes x xs (GoAfter n) is in
      let left = left-after n (x ∷ xs) bounds.1 in
      rw left.same (chain-more most more left.first left.others (omega (arith, left.fewer, bounds.0)) (omega (arith, left.fewer, bounds.0))))

  pub chain-go : (x : X) (xs : List X) (n : ℕ) → v (x ∷ xs) ≡ GoAfter n
      → chain v (x ∷ xs) ≡ (n + (chain v (drop n (x ∷ xs))).0, (chain v (drop n (x ∷ xs))).1)
  unfolding chain chain_within
  chain-go x xs n is =
      let bounds = takes x xs (GoAfter n) is in
      let left = left-after n (x ∷ xs) bounds.1 in
      rw is
      (ap (λ (found : ℕ × Verdict). (n + found.0, found.1))
      (rw left.same (chain-more (length xs) (length (left.first ∷ left.others)) left.first left.others (omega (arith, left.fewer, bounds.0)) (omega arith))))

  pub chain-break : (x : X) (xs : List X) (n class : ℕ) → v (x ∷ xs) ≡ BreakAfter n class → chain v (x ∷ xs) ≡ (0, BreakAfter n class)
  unfolding chain chain_within
  chain-break x xs n class is = rw is refl

  pub chain-run : (x : X) (xs : List X) → v (x ∷ xs) ≡ RunBegins → chain v (x ∷ xs) ≡ (0, RunBegins)
  unfolding chain chain_within
  chain-run x xs is = rw is refl

-- where no run begins, no chain ends in one

chain_within-no-run : {X : Type 0} (v : List X → Verdict) → IsForward v → HasNoRun v → (most : ℕ) (x : X) (xs : List X) → (chain_within v most (x ∷ xs)).1 ≢ RunBegins
unfolding chain_within
chain_within-no-run v forward none zero x xs is = none x xs is
chain_within-no-run {X} v forward none (suc most) x xs is =
    on (v (x ∷ xs)) refl (forward x xs) is
    (λ n less.
    let left = left-after n (x ∷ xs) less in
    subst (λ rest. (chain_within v most rest).1 ≢ RunBegins) (sym left.same) (chain_within-no-run v forward none most left.first left.others))
  where
    on : (w : Verdict) → v (x ∷ xs) ≡ w → TakesOf (length (x ∷ xs)) w → (go_on (λ n. chain_within v most (drop n (x ∷ xs))) w).1 ≡ RunBegins
        → ((n : ℕ) → n < length (x ∷ xs) → (chain_within v most (drop n (x ∷ xs))).1 ≢ RunBegins) → ⊥
    on (BreakAfter n class) same takes is later = cc
    on (GoAfter n) same takes is later = later n takes.1 is
    on RunBegins same takes is later = none x xs same

pub chain-no-run : {X : Type 0} (v : List X → Verdict) → IsForward v → HasNoRun v → (x : X) (xs : List X) → (chain v (x ∷ xs)).1 ≢ RunBegins
unfolding chain
chain-no-run v forward none x xs = chain_within-no-run v forward none (length (x ∷ xs)) x xs

-- a chain goes on from the element that it has reached
pub record IsOnChain {X : Type 0} (v : List X → Verdict) (whole : List X) (x : X) (xs : List X) : Type 0 where
  pub gone : ℕ
  pub here : x ∷ xs ≡ drop gone whole
  pub passed : (chain v whole).0 ≡ gone + (chain v (x ∷ xs)).0
  pub last : (chain v whole).1 ≡ (chain v (x ∷ xs)).1

pub on_chain-go : {X : Type 0} (v : List X → Verdict) (whole : List X) (x next : X) (xs after : List X) (n : ℕ) → IsForward v → IsOnChain v whole x xs
    → v (x ∷ xs) ≡ GoAfter n → drop n (x ∷ xs) ≡ next ∷ after → IsOnChain v whole next after
on_chain-go v whole x next xs after n forward on goes is =
    let step = chain-go v forward x xs n goes in record {
      gone = on.gone + n;
      here = sym is ∙ ap (drop n) on.here ∙ drop-drop n on.gone whole;
      passed = omega (arith, on.passed, ap (λ (found : ℕ × Verdict). found.0) step, ap (λ rest. (chain v rest).0) is);
      last = on.last ∙ ap (λ (found : ℕ × Verdict). found.1) step ∙ ap (λ rest. (chain v rest).1) is;
    }
