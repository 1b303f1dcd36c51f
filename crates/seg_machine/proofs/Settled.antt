-- What a search settles is that there is a pick.
use Rattle.std.proofs.Common.{◌≡◌, ℕ, suc, ◌+◌, ◌-◌, ◌<◌, ◌≤◌, ◌++◌, ◌==◌, ◌||◌, Bool, true, false, cond, List, [], ◌∷◌, length, map, replicate, refl, sym, ap, ◌∙◌, inl, inr, arith, eq-eqb}
use Rattle.std.specs.Prelude.{Option, Some, None}
use Rattle.std.specs.Option.{is_some, option_map, option_map_or, option_or}
use Rattle.seg_text.specs.declared.boundary.Boundary.{Boundary}
use Rattle.seg_text.specs.Boundaries.{boundary}
use Rattle.std.proofs.lemmas.Bool.{cases_Bool, cases_eq, ne_eqb, false≢true, cond-true, cond-false}
use Rattle.seg_data.proofs.Options.{some-map, or-false, or-true}
use Rattle.seg_machine.specs.declared.provider.Acceptance.{Acceptance}
use Rattle.seg_machine.specs.declared.provider.Acceptance.TheVariants.{Continue, Accept, Conditional}
use Rattle.seg_machine.specs.Machine.{Machine, step, run, scan, state_at}
use Rattle.seg_machine.specs.Pick.{later, last_step, acceptance_status, naming, condition, first_condition, pick}
use Rattle.seg_machine.specs.Search.{has, keep, is_pick, enter, settles, is_settled, IsSubset}
use Rattle.seg_machine.proofs.Sets.{has-none, has-keep}

some-either : (first second : Option Boundary) → is_some (option_or first second) ≡ (is_some first || is_some second)
some-either (Some found) second = refl
some-either None second = refl

-- step by step

pub settled-nil : (m : Machine) (q kept : ℕ) → is_settled m q kept [] ≡ false
unfolding is_settled run settles
settled-nil m q kept = refl

pub settled-none : (m : Machine) (q kept symbol : ℕ) (more : List ℕ) → step m q symbol ≡ None → is_settled m q kept (symbol ∷ more) ≡ false
unfolding is_settled run settles
settled-none m q kept symbol more none = rw none refl

pub settled-stop : (m : Machine) (q kept symbol next : ℕ) (more : List ℕ) → step m q symbol ≡ Some next → enter kept (state_at m next) ≡ None
    → is_settled m q kept (symbol ∷ more) ≡ true
unfolding is_settled run settles
settled-stop m q kept symbol next more leads none = rw leads (ap (λ (found : Option ℕ). option_map_or (λ after. settles after (map (state_at m) (run m next more))) found true) none)

pub settled-next : (m : Machine) (q kept symbol next after : ℕ) (more : List ℕ) → step m q symbol ≡ Some next → enter kept (state_at m next) ≡ Some after
    → is_settled m q kept (symbol ∷ more) ≡ is_settled m next after more
unfolding is_settled run settles
settled-next m q kept symbol next after more leads some = rw leads (ap (λ (found : Option ℕ). option_map_or (λ after. settles after (map (state_at m) (run m next more))) found true) some)

-- the end of the text, with so many of its steps done

end-more : (n k : ℕ) → k < n → n - k ≡ suc (n - (k + 1))
end-more n k less = omega arith

pub end-none : (m : Machine) (q kept n k : ℕ) (all : Bool) → step m q 0 ≡ None → k < n → is_settled m q kept (replicate (n - k) 0) ≡ all → false ≡ all
end-none m q kept n k all none less is =
    sym (settled-none m q kept 0 (replicate (n - (k + 1)) 0) none) ∙ sym (ap (λ (left : ℕ). is_settled m q kept (replicate left 0)) (end-more n k less)) ∙ is

pub end-stop : (m : Machine) (q kept next n k : ℕ) (all : Bool) → step m q 0 ≡ Some next → enter kept (state_at m next) ≡ None → k < n
    → is_settled m q kept (replicate (n - k) 0) ≡ all → true ≡ all
end-stop m q kept next n k all leads none less is =
    sym (settled-stop m q kept 0 next (replicate (n - (k + 1)) 0) leads none) ∙ sym (ap (λ (left : ℕ). is_settled m q kept (replicate left 0)) (end-more n k less)) ∙ is

pub end-next : (m : Machine) (q kept next after n k : ℕ) (all : Bool) → step m q 0 ≡ Some next → enter kept (state_at m next) ≡ Some after → k < n
    → is_settled m q kept (replicate (n - k) 0) ≡ all → is_settled m next after (replicate (n - (k + 1)) 0) ≡ all
end-next m q kept next after n k all leads some less is =
    sym (settled-next m q kept 0 next after (replicate (n - (k + 1)) 0) leads some) ∙ sym (ap (λ (left : ℕ). is_settled m q kept (replicate left 0)) (end-more n k less)) ∙ is

pub end-all : (m : Machine) (q kept n k : ℕ) (all : Bool) → n ≤ k → is_settled m q kept (replicate (n - k) 0) ≡ all → false ≡ all
end-all m q kept n k all past is =
    let none : n - k ≡ 0 = omega arith in
    sym (settled-nil m q kept) ∙ sym (ap (λ (left : ℕ). is_settled m q kept (replicate left 0)) none) ∙ is

-- against the pick

or-swap : (a b c : Bool) → ((a || b) || c) ≡ ((a || c) || b)
or-swap true b c = refl
or-swap false true true = refl
or-swap false true false = refl
or-swap false false true = refl
or-swap false false false = refl

or-way : (c f l a : Bool) → (c || a) ≡ true → ((c || f) || (l || a)) ≡ true
or-way true f l a is = refl
or-way false true l a is = refl
or-way false false true a is = refl
or-way false false false a is = is

or-rest : (c f l a : Bool) → (c || a) ≡ false → ((c || f) || (l || a)) ≡ (f || l)
or-rest true f l a is = cc
or-rest false f l true is = cc
or-rest false f l false is = ap (λ (b : Bool). f || b) (or-false l)

last-cons : (value : Acceptance × Option ℕ → Option ℕ) (state : Acceptance × Option ℕ) (states : List (Acceptance × Option ℕ))
    → is_some (last_step value (state ∷ states)) ≡ (is_some (last_step value states) || is_some (value state))
unfolding last_step
last-cons value state states =
    let one : Option Boundary = option_map (λ (v : ℕ). boundary 1 v) (value state) in
    some-either (later (last_step value states)) one
    ∙ ap (λ (b : Bool). b || is_some one) (some-map _ (last_step value states))
    ∙ ap (λ (b : Bool). is_some (last_step value states) || b) (some-map _ (value state))

pub last-none : (value : Acceptance × Option ℕ → Option ℕ) → is_some (last_step value []) ≡ false
unfolding last_step
last-none value = refl

last-more : (value : Acceptance × Option ℕ → Option ℕ) (states : List (Acceptance × Option ℕ)) (state : Acceptance × Option ℕ)
    → is_some (last_step value (states ++ state ∷ [])) ≡ (is_some (last_step value states) || is_some (value state))
last-more value [] state = last-cons value state []
last-more value (first ∷ states) state =
    last-cons value first (states ++ state ∷ [])
    ∙ ap (λ (b : Bool). b || is_some (value first)) (last-more value states state)
    ∙ or-swap (is_some (last_step value states)) (is_some (value state)) (is_some (value first))
    ∙ ap (λ (b : Bool). b || is_some (value state)) (sym (last-cons value first states))

first-cons : (earlier : List (Acceptance × Option ℕ)) (state : Acceptance × Option ℕ) (states : List (Acceptance × Option ℕ))
    → is_some (first_condition earlier (state ∷ states)) ≡ (is_some (condition earlier state) || is_some (first_condition (earlier ++ state ∷ []) states))
unfolding first_condition
first-cons earlier state states = some-either (condition earlier state) (first_condition (earlier ++ state ∷ []) states)

-- the set has the lookaheads that these states name
abbrev pub Agrees : ℕ → List (Acceptance × Option ℕ) → Type 0
Agrees kept earlier = (lookahead : ℕ) → has kept lookahead ≡ is_some (last_step (naming lookahead) earlier)

some-if : (b : Bool) (x : ℕ) → is_some (cond b (Some x) None) ≡ b
some-if true x = refl
some-if false x = refl

pub agrees-more : (kept : ℕ) (earlier : List (Acceptance × Option ℕ)) (state : Acceptance × Option ℕ) → Agrees kept earlier → Agrees (keep kept state.1) (earlier ++ state ∷ [])
agrees-more kept earlier (acceptance, Some name) agrees lookahead =
    has-keep kept name lookahead
    ∙ ap (λ (b : Bool). b || name == lookahead) (agrees lookahead)
    ∙ ap (λ (b : Bool). is_some (last_step (naming lookahead) earlier) || b) (sym (some-if (name == lookahead) name))
    ∙ sym (last-more (naming lookahead) earlier (acceptance, Some name))
agrees-more kept earlier (acceptance, None) agrees lookahead =
    agrees lookahead
    ∙ sym (or-false (is_some (last_step (naming lookahead) earlier)))
    ∙ sym (last-more (naming lookahead) earlier (acceptance, None))

pick-way : (kept : ℕ) (earlier : List (Acceptance × Option ℕ)) (state : Acceptance × Option ℕ) → Agrees kept earlier
    → is_pick kept state.0 ≡ (is_some (condition earlier state) || is_some (acceptance_status state))
pick-way kept earlier (Continue, name) agrees = refl
pick-way kept earlier (Accept status, name) agrees = refl
pick-way kept earlier (Conditional lookahead status, name) agrees =
    agrees lookahead
    ∙ sym (some-map (λ (f : Boundary). boundary f.offset status) (last_step (naming lookahead) earlier))
    ∙ sym (or-false (is_some {T = Boundary} (option_map (λ (f : Boundary). boundary f.offset status) (last_step (naming lookahead) earlier))))

settles-stop : (kept : ℕ) (state : Acceptance × Option ℕ) (states : List (Acceptance × Option ℕ)) → is_pick kept state.0 ≡ true → settles kept (state ∷ states) ≡ true
unfolding settles
settles-stop kept state states is = rw (cond-true (is_pick kept state.0) None (Some (keep kept state.1)) is) refl

settles-next : (kept : ℕ) (state : Acceptance × Option ℕ) (states : List (Acceptance × Option ℕ)) → is_pick kept state.0 ≡ false → settles kept (state ∷ states) ≡ settles (keep kept state.1) states
unfolding settles
settles-next kept state states is = rw (cond-false (is_pick kept state.0) None (Some (keep kept state.1)) is) refl

settles-none : (kept : ℕ) → settles kept [] ≡ false
unfolding settles
settles-none kept = refl

first-none : (earlier : List (Acceptance × Option ℕ)) → is_some (first_condition earlier []) ≡ false
unfolding first_condition
first-none earlier = refl

settles-picked : (kept : ℕ) (earlier states : List (Acceptance × Option ℕ)) → Agrees kept earlier
    → settles kept states ≡ (is_some (first_condition earlier states) || is_some (last_step acceptance_status states))
settles-picked kept earlier [] agrees = rw (settles-none kept, first-none earlier, last-none acceptance_status) refl
settles-picked kept earlier (state ∷ states) agrees =
    let c = is_some (condition earlier state) in
    let f = is_some (first_condition (earlier ++ state ∷ []) states) in
    let l = is_some (last_step acceptance_status states) in
    let a = is_some (acceptance_status state) in
    let way = pick-way kept earlier state agrees in
    let parts : (is_some (first_condition earlier (state ∷ states)) || is_some (last_step acceptance_status (state ∷ states))) ≡ ((c || f) || (l || a)) = rw (first-cons earlier state states, last-cons acceptance_status state states) refl in
    elim (cases_Bool (is_pick kept state.0)) [
      | inl yes_pick ↦ settles-stop kept state states yes_pick ∙ sym (parts ∙ or-way c f l a (sym way ∙ yes_pick))
      | inr no_pick ↦
          settles-next kept state states no_pick
          ∙ settles-picked (keep kept state.1) (earlier ++ state ∷ []) states (agrees-more kept earlier state agrees)
          ∙ sym (parts ∙ or-rest c f l a (sym way ∙ no_pick))
    ]

-- there is a pick just where the search settles it from START
pub pick-settled : (m : Machine) (symbols : List ℕ) → is_some (pick m symbols) ≡ is_settled m 0 0 (symbols ++ replicate (length m.states) 0)
unfolding pick is_settled scan
pick-settled m symbols =
    let states = map (state_at m) (run m 0 (symbols ++ replicate (length m.states) 0)) in
    some-map _ (option_or (first_condition [] states) (last_step acceptance_status states))
    ∙ some-either (first_condition [] states) (last_step acceptance_status states)
    ∙ sym (settles-picked 0 [] states (λ lookahead. has-none lookahead ∙ sym (last-none (naming lookahead))))

-- what a smaller set settles, a larger one does

pick-subset : (set kept : ℕ) (acceptance : Acceptance) → IsSubset set kept → is_pick set acceptance ≡ true → is_pick kept acceptance ≡ true
pick-subset set kept Continue subset picked = picked
pick-subset set kept (Accept status) subset picked = refl
pick-subset set kept (Conditional lookahead status) subset picked = subset lookahead picked

keep-subset : (set kept : ℕ) (named : Option ℕ) → IsSubset set kept → IsSubset (keep set named) (keep kept named)
keep-subset set kept None subset = subset
keep-subset set kept (Some name) subset =
    λ lookahead there.
    elim (cases_eq name lookahead) [
      | inl same ↦ has-keep kept name lookahead ∙ ap (λ (b : Bool). has kept lookahead || b) (eq-eqb name lookahead same) ∙ or-true (has kept lookahead)
      | inr apart ↦
          has-keep kept name lookahead ∙ ap (λ (b : Bool). has kept lookahead || b) (ne_eqb name lookahead apart) ∙ or-false (has kept lookahead)
          ∙ subset lookahead (sym (has-keep set name lookahead ∙ ap (λ (b : Bool). has set lookahead || b) (ne_eqb name lookahead apart) ∙ or-false (has set lookahead)) ∙ there)
    ]

settles-subset : (set kept : ℕ) (states : List (Acceptance × Option ℕ)) → IsSubset set kept → settles set states ≡ true → settles kept states ≡ true
unfolding settles
settles-subset set kept [] subset settled = settled
settles-subset set kept (state ∷ states) subset settled =
    elim (cases_Bool (is_pick kept state.0)) [
      | inl picked ↦ settles-stop kept state states picked
      | inr not ↦
          let before : is_pick set state.0 ≡ false = not-picked (is_pick set state.0) (λ picked. false≢true (sym not ∙ pick-subset set kept state.0 subset picked)) in
          settles-next kept state states not
          ∙ settles-subset (keep set state.1) (keep kept state.1) states (keep-subset set kept state.1 subset) (sym (settles-next set state states before) ∙ settled)
    ]
  where
    not-picked : (b : Bool) → (b ≡ true → ⊥) → b ≡ false
    not-picked true none = absurd (none refl)
    not-picked false none = refl

pub settled-subset : (m : Machine) (q set kept : ℕ) (symbols : List ℕ) → IsSubset set kept → is_settled m q set symbols ≡ true → is_settled m q kept symbols ≡ true
unfolding is_settled
settled-subset m q set kept symbols subset settled = settles-subset set kept (map (state_at m) (run m q symbols)) subset settled
