-- A pick in its own words.
use Rattle.std.proofs.Common.{◌≡◌, ℕ, zero, suc, ◌+◌, ◌<◌, ◌==◌, min, Option, Some, None, List, [], ◌∷◌, ◌++◌, length, replicate, All, refl, sym, ◌∙◌, ap, subst, inl, inr, arith, eq-eqb, append_assoc, length-append}
use Rattle.std.specs.Prelude.{slice_get, ◌↔◌, IfSome}
use Rattle.std.specs.Option.{option_map, option_map_or, option_or}
use Rattle.seg_text.specs.declared.boundary.Boundary.{Boundary}
use Rattle.seg_text.specs.Boundaries.{boundary}
use Rattle.std.proofs.lemmas.Bool.{cases_lt, cases_eq, cond-true, cond-false, ne_eqb}
use Rattle.std.proofs.lemmas.Option.{none-some, same_Some, slice_get_within}
use Rattle.seg_machine.specs.declared.provider.Acceptance.{Acceptance}
use Rattle.seg_machine.specs.declared.provider.Acceptance.TheVariants.{Continue, Accept, Conditional}
use Rattle.seg_machine.specs.MachineFaults.{IsChecked}
use Rattle.seg_machine.specs.Machine.{Machine, IsTextSymbol, step, run, scan}
use Rattle.seg_machine.specs.Pick.{later, last_step, acceptance_status, naming, condition, first_condition, pick, AcceptsAt, NamesAt, HoldsAt, IsFirstHeld, NoneHolds, IsLastAccepted, IsPick}
use Rattle.seg_machine.specs.Scan.{entries}
use Rattle.seg_machine.proofs.Scanned.{first_condition-none, first_condition-some, first_condition-nil, run-more}

-- the states before a seam, and the one behind it
slice_get-before : (xs ys : List (Acceptance × Option ℕ)) (k : ℕ) → k < length xs → slice_get (xs ++ ys) k ≡ slice_get xs k
slice_get-before [] ys k less = absurd (omega arith)
slice_get-before (x ∷ xs) ys zero less = refl
slice_get-before (x ∷ xs) ys (suc k) less = slice_get-before xs ys k (omega arith)

slice_get-seam : (xs ys : List (Acceptance × Option ℕ)) (y : Acceptance × Option ℕ) → slice_get (xs ++ y ∷ ys) (length xs) ≡ Some y
slice_get-seam [] ys y = refl
slice_get-seam (x ∷ xs) ys y = slice_get-seam xs ys y

-- the state at an index has this value
record HasAt (value : Acceptance × Option ℕ → Option ℕ) (states : List (Acceptance × Option ℕ)) (k v : ℕ) : Type 0 where
  state : Acceptance × Option ℕ
  here : slice_get states k ≡ Some state
  has : value state ≡ Some v

has-nil : (value : Acceptance × Option ℕ → Option ℕ) (k v : ℕ) → HasAt value [] k v → ⊥
has-nil value k v h = none-some h.state h.here

has-later : (value : Acceptance × Option ℕ → Option ℕ) (state : Acceptance × Option ℕ) (states : List (Acceptance × Option ℕ)) (k v : ℕ) → HasAt value states k v → HasAt value (state ∷ states) (suc k) v
has-later value state states k v h = record { state = h.state; here = h.here; has = h.has }

has-sooner : (value : Acceptance × Option ℕ → Option ℕ) (state : Acceptance × Option ℕ) (states : List (Acceptance × Option ℕ)) (k v : ℕ) → HasAt value (state ∷ states) (suc k) v → HasAt value states k v
has-sooner value state states k v h = record { state = h.state; here = h.here; has = h.has }

has-head : (value : Acceptance × Option ℕ → Option ℕ) (state : Acceptance × Option ℕ) (states : List (Acceptance × Option ℕ)) (v : ℕ) → HasAt value (state ∷ states) 0 v → value state ≡ Some v
has-head value state states v h = ap value (same_Some state h.state h.here) ∙ h.has

-- the last state that has a value
record IsLastAt (value : Acceptance × Option ℕ → Option ℕ) (states : List (Acceptance × Option ℕ)) (i v : ℕ) : Type 0 where
  has : HasAt value states i v
  last : (k other : ℕ) → i < k → HasAt value states k other → ⊥

IsLast : (Acceptance × Option ℕ → Option ℕ) → List (Acceptance × Option ℕ) → Option Boundary → Type 0
IsLast value states None = (k v : ℕ) → HasAt value states k v → ⊥
IsLast value states (Some found) = (i : ℕ) × (found.offset ≡ suc i) × IsLastAt value states i found.status

last-is : (value : Acceptance × Option ℕ → Option ℕ) (states : List (Acceptance × Option ℕ)) → IsLast value states (last_step value states)
unfolding last_step IsLast
last-is value [] = has-nil value
last-is value (state ∷ states) = on (last_step value states) (last-is value states) (value state) refl
  where
    on : (rest : Option Boundary) → IsLast value states rest → (here : Option ℕ) → value state ≡ here
        → IsLast value (state ∷ states) (option_or (later rest) (option_map (λ v. boundary 1 v) here))
    on (Some found) (i, is, l) here h = (
      suc i,
      ap suc is,
      record { has = has-later value state states i found.status l.has; last = after },
    )
      where
        after : (k other : ℕ) → suc i < k → HasAt value (state ∷ states) k other → ⊥
        after zero other less has = omega arith
        after (suc k) other less has = l.last k other (omega arith) (has-sooner value state states k other has)
    on None none (Some v) h = (
      0,
      refl,
      record { has = record { state = state; here = refl; has = h }; last = after },
    )
      where
        after : (k other : ℕ) → 0 < k → HasAt value (state ∷ states) k other → ⊥
        after zero other less has = omega arith
        after (suc k) other less has = none k other (has-sooner value state states k other has)
    on None none None h = nowhere
      where
        nowhere : (k other : ℕ) → HasAt value (state ∷ states) k other → ⊥
        nowhere zero other has = none-some other (sym h ∙ has-head value state states other has)
        nowhere (suc k) other has = none k other (has-sooner value state states k other has)

-- what it is to have a value
named-is : (lookahead v : ℕ) (state : Acceptance × Option ℕ) → naming lookahead state ≡ Some v → (acceptance : Acceptance) × (state ≡ (acceptance, Some lookahead))
named-is lookahead v (acceptance, None) is = cc
named-is lookahead v (acceptance, Some name) is =
    elim (cases_eq name lookahead) [
      | inl same ↦ (acceptance, ap (λ (l : ℕ). (acceptance, Some l)) same)
      | inr other ↦ absurd (none-some v (sym (cond-false (name == lookahead) (Some name) None (ne_eqb name lookahead other)) ∙ is))
    ]

named-has : (lookahead : ℕ) (acceptance : Acceptance) → naming lookahead (acceptance, Some lookahead) ≡ Some lookahead
named-has lookahead acceptance = cond-true (lookahead == lookahead) (Some lookahead) None (eq-eqb lookahead lookahead refl)

accepted-is : (status : ℕ) (state : Acceptance × Option ℕ) → acceptance_status state ≡ Some status → state ≡ (Accept status, state.1)
accepted-is status (Continue, name) is = cc
accepted-is status (Conditional lookahead other, name) is = cc
accepted-is status (Accept other, name) is = ap (λ (s : ℕ). (Accept s, name)) (same_Some other status is)

names-from : (states : List (Acceptance × Option ℕ)) (j lookahead v : ℕ) → HasAt (naming lookahead) states j v → NamesAt states j lookahead
names-from states j lookahead v h =
    let is = named-is lookahead v h.state h.has in
    record { acceptance = is.0; here = h.here ∙ ap Some is.1 }

names-has : (states : List (Acceptance × Option ℕ)) (j lookahead : ℕ) → NamesAt states j lookahead → HasAt (naming lookahead) states j lookahead
names-has states j lookahead n = record { state = (n.acceptance, Some lookahead); here = n.here; has = named-has lookahead n.acceptance }

accepts-from : (states : List (Acceptance × Option ℕ)) (i status : ℕ) → HasAt acceptance_status states i status → AcceptsAt states i status
accepts-from states i status h = record { name = h.state.1; here = h.here ∙ ap Some (accepted-is status h.state h.has) }

accepts-has : (states : List (Acceptance × Option ℕ)) (i status : ℕ) → AcceptsAt states i status → HasAt acceptance_status states i status
accepts-has states i status a = record { state = (Accept status, a.name); here = a.here; has = refl }

-- names before a seam
names-before : (xs ys : List (Acceptance × Option ℕ)) (j lookahead : ℕ) → j < length xs → NamesAt (xs ++ ys) j lookahead → NamesAt xs j lookahead
names-before xs ys j lookahead less n = record { acceptance = n.acceptance; here = sym (slice_get-before xs ys j less) ∙ n.here }

names-after : (xs ys : List (Acceptance × Option ℕ)) (j lookahead : ℕ) → j < length xs → NamesAt xs j lookahead → NamesAt (xs ++ ys) j lookahead
names-after xs ys j lookahead less n = record { acceptance = n.acceptance; here = slice_get-before xs ys j less ∙ n.here }

-- no condition holds before an index
NoneBefore : List (Acceptance × Option ℕ) → ℕ → Type 0
NoneBefore states i = (k lookahead status : ℕ) → k < i → HoldsAt states k lookahead status → ⊥

-- a condition that doesn't hold
condition-fails : (xs ys : List (Acceptance × Option ℕ)) (state : Acceptance × Option ℕ) (lookahead status : ℕ)
    → condition xs state ≡ None → HoldsAt (xs ++ state ∷ ys) (length xs) lookahead status → ⊥
unfolding IsLast
condition-fails xs ys state lookahead status none h =
    let is : state ≡ (Conditional lookahead status, h.condition.name) = same_Some state _ (sym (slice_get-seam xs ys state) ∙ h.condition.here) in
    let named-before = names-has xs h.j lookahead (names-before xs (state ∷ ys) h.j lookahead h.earlier h.names) in
    on (last_step (naming lookahead) xs) (last-is (naming lookahead) xs) named-before (sym (ap (condition xs) is) ∙ none)
  where
    on : (found : Option Boundary) → IsLast (naming lookahead) xs found → HasAt (naming lookahead) xs h.j lookahead
        → option_map {U = Boundary} (λ (f : Boundary). boundary f.offset status) found ≡ None → ⊥
    on None none has is = none h.j lookahead has
    on (Some f) last has is = cc

-- what the first condition that holds picks
record Held (states : List (Acceptance × Option ℕ)) (found : Boundary) : Type 0 where
  i : ℕ
  j : ℕ
  lookahead : ℕ
  step : found.offset ≡ suc j
  first : IsFirstHeld states i j lookahead found.status

IsHeld : List (Acceptance × Option ℕ) → Option Boundary → Type 0
IsHeld states None = NoneHolds states
IsHeld states (Some found) = Held states found

condition-holds : (xs ys : List (Acceptance × Option ℕ)) (state : Acceptance × Option ℕ) (found : Boundary)
    → condition xs state ≡ Some found → NoneBefore (xs ++ state ∷ ys) (length xs) → Held (xs ++ state ∷ ys) found
unfolding IsLast NoneBefore
condition-holds xs ys (Continue, name) found is before = cc
condition-holds xs ys (Accept status, name) found is before = cc
condition-holds xs ys (Conditional lookahead status, name) found is before =
    on (last_step (naming lookahead) xs) (last-is (naming lookahead) xs) is
  where
    on : (f : Option Boundary) → IsLast (naming lookahead) xs f → option_map {U = Boundary} (λ (f : Boundary). boundary f.offset status) f ≡ Some found
        → Held (xs ++ (Conditional lookahead status, name) ∷ ys) found
    on None none same = cc
    on (Some f) (j, step, l) same =
        let pair = same_Some {A = Boundary} (boundary f.offset status) found same in
        let less : j < length xs = slice_get_within xs j l.has.state l.has.here in
        subst (Held (xs ++ (Conditional lookahead status, name) ∷ ys)) pair (record {
          i = length xs;
          j = j;
          lookahead = lookahead;
          step = step;
          first = record {
            condition = record { name = name; here = slice_get-seam xs ys (Conditional lookahead status, name) };
            earlier = less;
            names = names-after xs _ j lookahead less (names-from xs j lookahead f.status l.has);
            last = λ k above below n. l.last k lookahead above (names-has xs k lookahead (names-before xs _ k lookahead below n));
            first = before;
          };
        })

first-is : (xs ys : List (Acceptance × Option ℕ)) → NoneBefore (xs ++ ys) (length xs) → IsHeld (xs ++ ys) (first_condition xs ys)
unfolding IsHeld NoneBefore
first-is xs [] before =
    rw (first_condition-nil xs)
    (λ k lookahead status h. before k lookahead status (omega (arith, slice_get_within (xs ++ []) k _ h.condition.here, length-append xs [])) h)
first-is xs (state ∷ ys) before = on (first-is (xs ++ state ∷ []) ys) (condition xs state) refl
  where
    same : (xs ++ state ∷ []) ++ ys ≡ xs ++ state ∷ ys
    same = append_assoc xs (state ∷ []) ys

    before-next : condition xs state ≡ None → NoneBefore (xs ++ state ∷ ys) (length (xs ++ state ∷ []))
    before-next none k lookahead status less h =
        let long : length (xs ++ state ∷ []) ≡ length xs + 1 = length-append xs (state ∷ []) in
        elim (cases_lt k (length xs)) [
          | inl below ↦ before k lookahead status below h
          | inr above ↦
              let is : k ≡ length xs = omega arith in
              condition-fails xs ys state lookahead status none (subst (λ (n : ℕ). HoldsAt (xs ++ state ∷ ys) n lookahead status) is h)
        ]

    on : (NoneBefore ((xs ++ state ∷ []) ++ ys) (length (xs ++ state ∷ [])) → IsHeld ((xs ++ state ∷ []) ++ ys) (first_condition (xs ++ state ∷ []) ys))
        → (found : Option Boundary) → condition xs state ≡ found → IsHeld (xs ++ state ∷ ys) (first_condition xs (state ∷ ys))
    on more None none =
        rw (first_condition-none xs ys state none)
        (subst (λ (whole : List (Acceptance × Option ℕ)). IsHeld whole (first_condition (xs ++ state ∷ []) ys)) same
        (more (subst (λ (whole : List (Acceptance × Option ℕ)). NoneBefore whole (length (xs ++ state ∷ []))) (sym same) (before-next none))))
    on more (Some found) some =
        rw (first_condition-some xs ys state found some) (condition-holds xs ys state found some before)

-- the pick, by what it is made of
picks : (states : List (Acceptance × Option ℕ)) (symbols n status : ℕ) (condition_end last : Option Boundary)
    → IsHeld states condition_end → IsLast acceptance_status states last
    → option_map {U = Boundary} (λ (f : Boundary). boundary (min f.offset symbols) f.status) (option_or condition_end last) ≡ Some (boundary n status) → IsPick states symbols n status
unfolding IsHeld IsLast
picks states symbols n status (Some found) last h l is =
    let pair = same_Some {A = Boundary} (boundary (min found.offset symbols) found.status) (boundary n status) is in
    let takes : n ≡ min (suc h.j) symbols = sym (ap (λ (p : Boundary). p.offset) pair) ∙ ap (λ (s : ℕ). min s symbols) h.step in
    inl (h.i, h.j, h.lookahead, subst (IsFirstHeld states h.i h.j h.lookahead) (ap (λ (p : Boundary). p.status) pair) h.first, takes)
picks states symbols n status None (Some found) none (i, step, l) is =
    let pair = same_Some {A = Boundary} (boundary (min found.offset symbols) found.status) (boundary n status) is in
    let takes : n ≡ min (suc i) symbols = sym (ap (λ (p : Boundary). p.offset) pair) ∙ ap (λ (s : ℕ). min s symbols) step in
    inr (
      none,
      (
        i,
        subst (IsLastAccepted states i) (ap (λ (p : Boundary). p.status) pair)
            (record { accepts = accepts-from states i found.status l.has; last = λ k other above a. l.last k other above (accepts-has states k other a) }),
        takes,
      ),
    )
picks states symbols n status None None none no-last is = cc

-- a text has one pick

held-one : (states : List (Acceptance × Option ℕ)) (i j l s i2 j2 l2 s2 : ℕ) → IsFirstHeld states i j l s → IsFirstHeld states i2 j2 l2 s2 → (j ≡ j2) × (s ≡ s2)
held-one states i j l s i2 j2 l2 s2 a b =
    let same : i ≡ i2 = elim (cases_lt i i2) [
      | inl less ↦ absurd (b.first i l s less (holds a))
      | inr more ↦ elim (cases_lt i2 i) [ inl less ↦ absurd (a.first i2 l2 s2 less (holds b)) | inr fewer ↦ omega arith ]
    ] in
    let here = same_Some {A = Acceptance × Option ℕ} (Conditional l s, a.condition.name) (Conditional l2 s2, b.condition.name) (sym a.condition.here ∙ ap (slice_get states) same ∙ b.condition.here) in
    let acceptance : Conditional l s ≡ Conditional l2 s2 = ap (λ (p : Acceptance × Option ℕ). p.0) here in
    let lookahead : l ≡ l2 = cc in
    let status : s ≡ s2 = cc in
    let step : j ≡ j2 = elim (cases_lt j j2) [
      | inl less ↦ absurd (a.last j2 less (omega (arith, b.earlier)) (subst (NamesAt states j2) (sym lookahead) b.names))
      | inr more ↦ elim (cases_lt j2 j) [
        | inl less ↦ absurd (b.last j less (omega (arith, a.earlier)) (subst (NamesAt states j) lookahead a.names))
        | inr fewer ↦ omega arith
      ]
    ] in
    (step, status)
  where
    holds : {i j l s : ℕ} → IsFirstHeld states i j l s → HoldsAt states i l s
    holds {j = j} f = record { condition = f.condition; j = j; earlier = f.earlier; names = f.names }

held-some : (states : List (Acceptance × Option ℕ)) (i j l s : ℕ) → IsFirstHeld states i j l s → NoneHolds states → ⊥
held-some states i j l s f none = none i l s (record { condition = f.condition; j = j; earlier = f.earlier; names = f.names })

accepted-one : (states : List (Acceptance × Option ℕ)) (i s i2 s2 : ℕ) → IsLastAccepted states i s → IsLastAccepted states i2 s2 → (i ≡ i2) × (s ≡ s2)
accepted-one states i s i2 s2 a b =
    let same : i ≡ i2 = elim (cases_lt i i2) [
      | inl less ↦ absurd (a.last i2 s2 less b.accepts)
      | inr more ↦ elim (cases_lt i2 i) [ inl less ↦ absurd (b.last i s less a.accepts) | inr fewer ↦ omega arith ]
    ] in
    let here = same_Some {A = Acceptance × Option ℕ} (Accept s, a.accepts.name) (Accept s2, b.accepts.name) (sym a.accepts.here ∙ ap (slice_get states) same ∙ b.accepts.here) in
    let acceptance : Accept s ≡ Accept s2 = ap (λ (p : Acceptance × Option ℕ). p.0) here in
    let status : s ≡ s2 = cc in
    (same, status)

taken : (symbols k s k2 s2 n n2 : ℕ) → (k ≡ k2) × (s ≡ s2) → n ≡ min (suc k) symbols → n2 ≡ min (suc k2) symbols → (n ≡ n2) × (s ≡ s2)
taken symbols k s k2 s2 n n2 (step, status) a b = (a ∙ ap (λ (i : ℕ). min (suc i) symbols) step ∙ sym b, status)

pub pick-one : (states : List (Acceptance × Option ℕ)) (symbols n s n2 s2 : ℕ) → IsPick states symbols n s → IsPick states symbols n2 s2 → (n ≡ n2) × (s ≡ s2)
pick-one states symbols n s n2 s2 (inl (i, j, l, f, takes)) (inl (i2, j2, l2, f2, takes2)) = taken symbols j s j2 s2 n n2 (held-one states i j l s i2 j2 l2 s2 f f2) takes takes2
pick-one states symbols n s n2 s2 (inl (i, j, l, f, takes)) (inr (none, (i2, a2, takes2))) = absurd (held-some states i j l s f none)
pick-one states symbols n s n2 s2 (inr (none, (i, a, takes))) (inl (i2, j2, l2, f2, takes2)) = absurd (held-some states i2 j2 l2 s2 f2 none)
pick-one states symbols n s n2 s2 (inr (none, (i, a, takes))) (inr (none2, (i2, a2, takes2))) = taken symbols i s i2 s2 n n2 (accepted-one states i s i2 s2 a a2) takes takes2

-- so what is a pick in these words is the pick
pick-there : (states : List (Acceptance × Option ℕ)) (condition_end last : Option Boundary) (symbols n s : ℕ) → IsHeld states condition_end → IsLast acceptance_status states last → IsPick states symbols n s
    → (f : Boundary) × (option_or condition_end last ≡ Some f)
unfolding IsHeld IsLast
pick-there states (Some f) last symbols n s h l p = (f, refl)
pick-there states None (Some f) symbols n s h l p = (f, refl)
pick-there states None None symbols n s none no-last (inl (i, j, l, f, takes)) = absurd (held-some states i j l s f none)
pick-there states None None symbols n s none no-last (inr (nothing, (i, a, takes))) = absurd (no-last i s (accepts-has states i s a.accepts))

pub pick-words : (m : Machine) (symbols : List ℕ) (n status : ℕ)
    → (pick m symbols ≡ Some (boundary n status)) ↔ IsPick (entries m (scan m symbols)) (length symbols) n status
unfolding pick NoneBefore
pick-words m symbols n status = (there n status, back)
  where
    states : List (Acceptance × Option ℕ)
    states = entries m (scan m symbols)

    found : Option Boundary
    found = option_or (first_condition [] states) (last_step acceptance_status states)

    first : IsHeld states (first_condition [] states)
    first = first-is [] states (λ k lookahead status less h. omega arith)

    there : (n status : ℕ) → option_map {U = Boundary} (λ (f : Boundary). boundary (min f.offset (length symbols)) f.status) found ≡ Some (boundary n status) → IsPick states (length symbols) n status
    there n status is = picks states (length symbols) n status (first_condition [] states) (last_step acceptance_status states) first (last-is acceptance_status states) is

    back : IsPick states (length symbols) n status → option_map {U = Boundary} (λ (f : Boundary). boundary (min f.offset (length symbols)) f.status) found ≡ Some (boundary n status)
    back p =
        let some = pick-there states (first_condition [] states) (last_step acceptance_status states) (length symbols) n status first (last-is acceptance_status states) p in
        let is : option_map {U = Boundary} (λ (f : Boundary). boundary (min f.offset (length symbols)) f.status) found ≡ Some (boundary (min some.0.offset (length symbols)) some.0.status) = ap (option_map {U = Boundary} (λ (f : Boundary). boundary (min f.offset (length symbols)) f.status)) some.1 in
        let same = pick-one states (length symbols) _ _ n status (there _ _ is) p in
        is ∙ ap (λ (k : ℕ). Some (boundary k some.0.status)) same.0 ∙ ap (λ (t : ℕ). Some (boundary n t)) same.1

-- more symbols of the end change nothing
run-longer : (m : Machine) → IsChecked m → (k state : ℕ) → state < length m.states
    → run m state (replicate (k + length m.states) 0) ≡ run m state (replicate (length m.states) 0)
run-longer m checked zero state here =
    let none : 0 + length m.states ≡ length m.states = omega arith in
    ap (λ (n : ℕ). run m state (replicate n 0)) none
run-longer m checked (suc k) state here =
    let one : suc k + length m.states ≡ suc (k + length m.states) = omega arith in
    let same = run-longer m checked k state here in
    let long : length (run m state (replicate (k + length m.states) 0)) ≡ length (run m state (replicate (length m.states) 0)) = ap length same in
    ap (λ (n : ℕ). run m state (replicate n 0)) one
    ∙ run-more m (k + length m.states) state (omega (arith, checked.ends state here)) ∙ same

pub run-end-more : (m : Machine) → IsChecked m → (k state : ℕ) (symbols : List ℕ) → state < length m.states → All (IsTextSymbol m) symbols
    → run m state (symbols ++ replicate (k + length m.states) 0) ≡ run m state (symbols ++ replicate (length m.states) 0)
unfolding run
run-end-more m checked k state [] here all = run-longer m checked k state here
run-end-more m checked k state (symbol ∷ symbols) here all =
    on (λ next below. run-end-more m checked k next symbols below (λ i d less. all (suc i) d (omega arith))) (step m state symbol)
    (checked.in_range state symbol here (all 0 0 (omega arith)).1)
  where
    on : ((next : ℕ) → next < length m.states → run m next (symbols ++ replicate (k + length m.states) 0) ≡ run m next (symbols ++ replicate (length m.states) 0))
        → (found : Option ℕ) → IfSome found (λ next. next < length m.states)
        → option_map_or {T = ℕ} {U = List ℕ} (λ next. next ∷ run m next (symbols ++ replicate (k + length m.states) 0)) found []
        ≡ option_map_or {T = ℕ} {U = List ℕ} (λ next. next ∷ run m next (symbols ++ replicate (length m.states) 0)) found []
    on more None below = refl
    on more (Some next) below = ap (λ (states : List ℕ). next ∷ states) (more next below)

pub scan-more : (m : Machine) → IsChecked m → (symbols : List ℕ) (k : ℕ) → All (IsTextSymbol m) symbols
    → run m 0 (symbols ++ replicate (k + length m.states) 0) ≡ scan m symbols
unfolding scan
scan-more m checked symbols k all = run-end-more m checked k 0 symbols checked.some_state all
