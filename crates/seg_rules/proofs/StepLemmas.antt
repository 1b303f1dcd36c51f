-- What the test of a step says of the machine: where it stops, or what a configuration has behind a symbol.
use Rattle.std.specs.Prelude.{◌≡◌, ℕ, zero, suc, ◌<◌, Bool, true, false, not, ◌&&◌, ◌||◌, ◌==◌, nat_lt, if◌then◌else◌, List, [], ◌∷◌, length, ◌⊎◌}
use Rattle.std.proofs.Common.{arith, refl, sym, ap, ◌∙◌, inl, inr, eqb-true}
use Rattle.std.proofs.lemmas.Bool.{and_parts, cond-true, cond-false}
use Rattle.seg_rules.specs.RowRules.{RowRules, once}
use Rattle.seg_rules.proofs.TableLemmas.{chosen, number-is}
use Rattle.seg_rules.specs.declared.certificate.Configuration.{Configuration}
use Rattle.seg_rules.specs.Check.{Plan, Tables, get, goes_on, each_goes, entered, known, moved_place}

pub once-is : {X : Type 0} (b : Bool) (f : Bool → X) → once b f ≡ f b
unfolding once
once-is true f = refl
once-is false f = refl

abbrev pub kept_of : ℕ → ℕ → ℕ
kept_of older newest = if older == 0 then newest else older

abbrev pub is_sure : ℕ → Bool
is_sure kept = nat_lt kept 3 && not (kept == 0)

module _ (rules : RowRules) (t : Tables) (plan : Plan) (relation : List (List Configuration)) where
  abbrev pub next_config : Configuration → ℕ → ℕ → ℕ → ℕ → Configuration
  next_config c before doubt older newest = record {
    before = before;
    doubt = doubt;
    older = kept_of older newest;
    newest = not (is_sure (kept_of older newest)) && not (get 0 t.owes before == 0);
    last = moved_place older newest c.last;
    status = c.status;
    named = moved_place older newest c.named;
  }

  abbrev pub clean : Configuration → ℕ → ℕ → ℕ → ℕ → ℕ → Bool
  clean c before q doubt older newest =
      if q == 255
      then is_sure (kept_of older newest) && (moved_place older newest c.last == 3 && kept_of older newest == suc c.status)
      else (not (q == 0) && (nat_lt older 3 || newest == 0))
      && entered rules t plan relation q (get (0, 0, false) plan.accepts q) (kept_of older newest) (next_config c before doubt older newest)

  pub goes-clean : (c : Configuration) (before q doubt older newest : ℕ)
      → goes_on rules t plan relation c before q (suc doubt) older newest ≡ clean c before q (suc doubt) older newest
  unfolding goes_on
  goes-clean c before q doubt older newest = simp (number-is, once-is)

  -- the machine stops, and the place last accepted is the one that is sure
  pub record Stops (c : Configuration) (q older newest : ℕ) : Type 0 where
    pub none : q ≡ 255
    pub sure : is_sure (kept_of older newest) ≡ true
    pub place : moved_place older newest c.last ≡ 3
    pub status : kept_of older newest ≡ suc c.status

  -- it goes on, and what is then true is in the relation
  pub record Enters (c : Configuration) (before q doubt older newest : ℕ) : Type 0 where
    pub some : (q == 255) ≡ false
    pub again : (q == 0) ≡ false
    pub single : (nat_lt older 3 || newest == 0) ≡ true
    pub enters : entered rules t plan relation q (get (0, 0, false) plan.accepts q) (kept_of older newest) (next_config c before doubt older newest) ≡ true

  bool-cases : (b : Bool) → (b ≡ true) ⊎ (b ≡ false)
  bool-cases true = inl refl
  bool-cases false = inr refl

  not-true : (b : Bool) → not b ≡ true → b ≡ false
  not-true false h = refl
  not-true true h = sym h

  pub goes : (c : Configuration) (before q doubt older newest : ℕ) → goes_on rules t plan relation c before q (suc doubt) older newest ≡ true
      → Stops c q older newest ⊎ Enters c before q (suc doubt) older newest
  goes c before q doubt older newest h =
      let is = sym (goes-clean c before q doubt older newest) ∙ h in
      elim (bool-cases (q == 255)) [
        | inl none ↦
            let all = sym (cond-true _ _ _ none) ∙ is in
            let one = and_parts _ _ all in
            let two = and_parts _ _ one.1 in
            inl (record { none = eqb-true q 255 none; sure = one.0; place = eqb-true _ _ two.0; status = eqb-true _ _ two.1 })
        | inr some ↦
            let all = sym (cond-false _ _ _ some) ∙ is in
            let one = and_parts _ _ all in
            let two = and_parts _ _ one.0 in
            inr (record { some = some; again = not-true _ two.0; single = two.1; enters = one.1 })
      ]

  chosen-goes : (c : Configuration) (glues : Bool) (before q : ℕ) (d o w : ℕ × ℕ)
      → (if glues then goes_on rules t plan relation c before q d.1 o.1 w.1 else goes_on rules t plan relation c before q d.0 o.0 w.0) ≡ true
      → goes_on rules t plan relation c before q (chosen glues d) (chosen glues o) (chosen glues w) ≡ true
  chosen-goes c true before q d o w h = h
  chosen-goes c false before q d o w h = h

  -- a row of tests, at one symbol
  pub each-at : (c : Configuration) (glues : Bool) (befores qs : List ℕ) (ds os ws : List (ℕ × ℕ)) (j : ℕ)
      → each_goes rules t plan relation c glues befores qs ds os ws ≡ true → j < length befores
      → goes_on rules t plan relation c (get 0 befores j) (get 255 qs j) (chosen glues (get (0, 0) ds j)) (chosen glues (get (0, 0) os j)) (chosen glues (get (0, 0) ws j)) ≡ true
  unfolding each_goes get
  each-at c glues (b ∷ bs) (q ∷ qs) (d ∷ ds) (o ∷ os) (w ∷ ws) zero h below =
      chosen-goes c glues b q d o w (and_parts (if glues then goes_on rules t plan relation c b q d.1 o.1 w.1 else goes_on rules t plan relation c b q d.0 o.0 w.0) _ h).0
  each-at c glues (b ∷ bs) (q ∷ qs) (d ∷ ds) (o ∷ os) (w ∷ ws) (suc j) h below =
      each-at c glues bs qs ds os ws j
      (and_parts (if glues then goes_on rules t plan relation c b q d.1 o.1 w.1 else goes_on rules t plan relation c b q d.0 o.0 w.0) _ h).1 (omega arith)
  each-at c glues [] qs ds os ws j h below = absurd (omega arith)
  each-at c glues (b ∷ bs) [] ds os ws j h below = let no : false ≡ true = h in cc
  each-at c glues (b ∷ bs) (q ∷ qs) [] os ws j h below = let no : false ≡ true = h in cc
  each-at c glues (b ∷ bs) (q ∷ qs) (d ∷ ds) [] ws j h below = let no : false ≡ true = h in cc
  each-at c glues (b ∷ bs) (q ∷ qs) (d ∷ ds) (o ∷ os) [] j h below = let no : false ≡ true = h in cc

  -- what is in the relation, or picked, once a state is entered
  pub data Entering (q kind status : ℕ) (names : Bool) (kept : ℕ) (c : Configuration) : Type 0 where
    Passes : (kind == 1) ≡ false → (kind ≡ 0) ⊎ (c.named ≡ 0) → known rules t plan relation q c ≡ true → Entering q kind status names kept c
    Accepts : kind ≡ 1 → known rules t plan relation q (record c { last = 2; status = status; named = if names then 2 else c.named }) ≡ true
        → Entering q kind status names kept c
    Picks : (kind == 0) ≡ false → (kind == 1) ≡ false → (c.named == 0) ≡ false → c.named ≡ 3 → nat_lt kept 3 ≡ true → kept ≡ suc status → Entering q kind status names kept c

  zero-is-not-one : (kind : ℕ) → kind ≡ 0 → (kind == 1) ≡ false
  zero-is-not-one kind is = ap (λ n. n == 1) is

  pub entering : (q kind status : ℕ) (names : Bool) (kept : ℕ) (c : Configuration) → entered rules t plan relation q (kind, status, names) kept c ≡ true
      → Entering q kind status names kept c
  unfolding entered
  entering q kind status names kept c h =
      elim (bool-cases (kind == 0)) [
        | inl nil ↦ let is = eqb-true kind 0 nil in Passes (zero-is-not-one kind is) (inl is) (sym (cond-true _ _ _ nil) ∙ h)
        | inr nonzero ↦
            let here = sym (cond-false _ _ _ nonzero) ∙ h in
            elim (bool-cases (kind == 1)) [
              | inl one ↦ Accepts (eqb-true kind 1 one) (sym (cond-true _ _ _ one) ∙ here)
              | inr condition ↦
                  let there = sym (cond-false _ _ _ condition) ∙ here in
                  elim (bool-cases (c.named == 0)) [
                    | inl none ↦ Passes condition (inr (eqb-true c.named 0 none)) (sym (cond-true _ _ _ none) ∙ there)
                    | inr some ↦
                        let all = sym (cond-false _ _ _ some) ∙ there in
                        let a = and_parts _ _ all in
                        let b = and_parts _ _ a.1 in
                        Picks nonzero condition some (eqb-true _ _ a.0) b.0 (eqb-true _ _ b.1)
                  ]
            ]
      ]
