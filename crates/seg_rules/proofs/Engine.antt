-- The engine's pick is the fold of a plan: its last acceptance, or what the first condition that holds picks.
use Rattle.std.specs.Prelude.{◌≡◌, ℕ, zero, suc, ◌+◌, ◌<◌, ◌≤◌, min, Bool, true, false, not, ◌&&◌, ◌==◌, if◌then◌else◌, Option, Some, None, List, [], ◌∷◌, ◌++◌, length, map, replicate}
use Rattle.std.specs.Option.{option_map, option_or, option_map_or, is_none}
use Rattle.std.proofs.Common.{arith, refl, sym, ap, ap₂, ◌∙◌, inl, inr, eqb-true, eq-eqb, append_assoc, append-nil}
use Rattle.std.proofs.lemmas.Bool.{and_parts, cond-true, cond-false}
use Rattle.seg_text.specs.declared.boundary.Boundary.{Boundary}
use Rattle.seg_text.specs.Boundaries.{boundary}
use Rattle.seg_machine.specs.declared.provider.Acceptance.{Acceptance}
use Rattle.seg_machine.specs.declared.provider.Acceptance.TheVariants.{Continue, Accept, Conditional}
use Rattle.seg_machine.specs.Machine.{Machine, step, run, scan, state_at}
use Rattle.seg_machine.specs.Pick.{later, last_step, acceptance_status, naming, condition, first_condition, pick}
use Rattle.seg_rules.specs.Check.{Plan}
use Rattle.seg_rules.specs.Places.{next_of, accept_of, stands_for, IsPlan}
use Rattle.seg_rules.proofs.Soundness.{zeros, finish, bool-cases}

abbrev Entry : Type 0
Entry = Acceptance × Option ℕ

-- ---- the pick as a fold over what is entered

-- what a condition picks, of the place that names the lookahead
abbrev held : Option Boundary → Entry → Option Boundary
held named (Conditional lookahead status, name) = option_map (λ (f : Boundary). boundary f.offset status) named
held named (_, _) = None

-- the last of some, after one more step
abbrev newer : ℕ → Option ℕ → Option Boundary → Option Boundary
newer k value old = option_or (option_map (λ v. boundary (suc k) v) value) old

unfoldable pick_from : ℕ → Option Boundary → Option Boundary → List Entry → Option Boundary
pick_from k last named [] = last
pick_from k last named (entry ∷ entries) =
    option_or (held named entry) (pick_from (suc k) (newer k (acceptance_status entry) last) (newer k (naming 0 entry) named) entries)

-- a condition is on the lookahead 0
abbrev is_single : Entry → Bool
is_single (Conditional lookahead status, name) = lookahead == 0
is_single (_, _) = true

unfoldable each_single : List Entry → Bool
each_single [] = true
each_single (entry ∷ entries) = is_single entry && each_single entries

or-none : (a : Option Boundary) → option_or a None ≡ a
or-none None = refl
or-none (Some f) = refl

or-assoc : (a b c : Option Boundary) → option_or (option_or a b) c ≡ option_or a (option_or b c)
or-assoc None b c = refl
or-assoc (Some f) b c = refl

later-newer : (k : ℕ) (value : Option ℕ) (a b : Option Boundary) → option_or (later (newer k value a)) b ≡ newer (suc k) value (option_or (later a) b)
later-newer k None a b = refl
later-newer k (Some v) a b = refl

-- the last of steps and one more
last-snoc : (value : Entry → Option ℕ) (entries : List Entry) (entry : Entry)
    → last_step value (entries ++ entry ∷ []) ≡ newer (length entries) (value entry) (last_step value entries)
unfolding last_step
last-snoc value [] entry = sym (or-none (option_map (λ v. boundary 1 v) (value entry)))
last-snoc value (e ∷ entries) entry =
    ap (λ last. option_or (later last) (option_map (λ v. boundary 1 v) (value e))) (last-snoc value entries entry)
    ∙ later-newer (length entries) (value entry) (last_step value entries) (option_map (λ v. boundary 1 v) (value e))

length-snoc : (entries : List Entry) (entry : Entry) → length (entries ++ entry ∷ []) ≡ suc (length entries)
length-snoc [] entry = refl
length-snoc (e ∷ entries) entry = ap suc (length-snoc entries entry)

condition-held : (earlier : List Entry) (entry : Entry) → is_single entry ≡ true → condition earlier entry ≡ held (last_step (naming 0) earlier) entry
condition-held earlier (Continue, name) single = refl
condition-held earlier (Accept status, name) single = refl
condition-held earlier (Conditional lookahead status, name) single =
    ap (λ l. option_map (λ (f : Boundary). boundary f.offset status) (last_step (naming l) earlier)) (eqb-true lookahead 0 single)

fold-pick : (earlier entries : List Entry) → each_single entries ≡ true
    → option_or (first_condition earlier entries) (last_step acceptance_status (earlier ++ entries))
    ≡ pick_from (length earlier) (last_step acceptance_status earlier) (last_step (naming 0) earlier) entries
unfolding first_condition pick_from each_single
fold-pick earlier [] single = ap (last_step acceptance_status) (append-nil earlier)
fold-pick earlier (entry ∷ entries) single =
    let parts = and_parts (is_single entry) (each_single entries) single in
    let further = fold-pick (earlier ++ entry ∷ []) entries parts.1 in
    let e1 = length-snoc earlier entry in
    let e2 = last-snoc acceptance_status earlier entry in
    let e3 = last-snoc (naming 0) earlier entry in
    or-assoc (condition earlier entry) (first_condition (earlier ++ entry ∷ []) entries) (last_step acceptance_status (earlier ++ (entry ∷ entries)))
    ∙ ap (λ all. option_or (condition earlier entry) (option_or (first_condition (earlier ++ entry ∷ []) entries) (last_step acceptance_status all)))
    (sym (append_assoc earlier (entry ∷ []) entries))
    ∙ ap (option_or (condition earlier entry)) further
    ∙ (λ i. option_or (condition-held earlier entry parts.0 i) (pick_from (e1 i) (e2 i) (e3 i) entries))

-- ---- a machine's steps as a plan's

data EntryIs (entry : Entry) (accept : ℕ × ℕ × Bool) : Type 0 where
  Goes : accept.0 ≡ 0 → acceptance_status entry ≡ None → naming 0 entry ≡ None → ((named : Option Boundary) → held named entry ≡ None) → EntryIs entry accept
  Accepts : accept.0 ≡ 1 → acceptance_status entry ≡ Some accept.1 → naming 0 entry ≡ (if accept.2 then Some 0 else None)
      → ((named : Option Boundary) → held named entry ≡ None) → EntryIs entry accept
  Holds : accept.0 ≡ 2 → acceptance_status entry ≡ None → naming 0 entry ≡ None
      → ((named : Option Boundary) → held named entry ≡ option_map (λ (f : Boundary). boundary f.offset accept.1) named) → EntryIs entry accept

not-true : (b : Bool) → not b ≡ true → b ≡ false
not-true false h = refl
not-true true h = sym h

entry-is : (entry : Entry) (accept : ℕ × ℕ × Bool) → stands_for entry accept ≡ true → EntryIs entry accept
entry-is (Continue, None) accept h = Goes (eqb-true _ _ h) refl refl (λ named. refl)
entry-is (Continue, Some name) accept h = let no : false ≡ true = h in cc
entry-is (Accept status, None) accept h =
    let a = and_parts (accept.0 == 1) _ h in
    let b = and_parts (status == accept.1) _ a.1 in
    Accepts (eqb-true _ _ a.0) (ap Some (eqb-true _ _ b.0)) (sym (cond-false _ _ _ (not-true _ b.1))) (λ named. refl)
entry-is (Accept status, Some name) accept h =
    let a = and_parts (accept.0 == 1) _ h in
    let b = and_parts (status == accept.1) _ a.1 in
    let c = and_parts accept.2 (name == 0) b.1 in
    Accepts (eqb-true _ _ a.0) (ap Some (eqb-true _ _ b.0)) (ap (λ l. if l == 0 then Some l else None) (eqb-true name 0 c.1) ∙ sym (cond-true _ _ _ c.0)) (λ named. refl)
entry-is (Conditional lookahead status, None) accept h =
    let a = and_parts (accept.0 == 2) _ h in
    let b = and_parts (status == accept.1) _ a.1 in
    Holds (eqb-true _ _ a.0) refl refl (λ named. ap (λ s. option_map (λ (f : Boundary). boundary f.offset s) named) (eqb-true _ _ b.0))
entry-is (Conditional lookahead status, Some name) accept h = let no : false ≡ true = h in cc

entry-single : (entry : Entry) (accept : ℕ × ℕ × Bool) → stands_for entry accept ≡ true → is_single entry ≡ true
entry-single (Continue, name) accept h = refl
entry-single (Accept status, name) accept h = refl
entry-single (Conditional lookahead status, None) accept h =
    let a = and_parts (accept.0 == 2) _ h in
    (and_parts (status == accept.1) _ a.1).1
entry-single (Conditional lookahead status, Some name) accept h = let no : false ≡ true = h in cc

-- steps at the end take no more symbols
abbrev clamp : ℕ → Option Boundary → Option Boundary
clamp most found = option_map (λ (f : Boundary). boundary (min f.offset most) f.status) found

abbrev pub as_boundary : Option (ℕ × ℕ) → Option Boundary
as_boundary found = option_map (λ f. boundary f.0 f.1) found

record Same (most : ℕ) (last named : Option Boundary) (last' : Option (ℕ × ℕ)) (named' : Option ℕ) : Type 0 where
  of_last : clamp most last ≡ as_boundary last'
  of_named : option_map (λ (f : Boundary). min f.offset most) named ≡ named'

same-accepts : (most k at status : ℕ) (names : Bool) (named : Option Boundary) (named' : Option ℕ) → min (suc k) most ≡ at
    → option_map (λ (f : Boundary). min f.offset most) named ≡ named'
    → Same most (Some (boundary (suc k) status)) (newer k (if names then Some 0 else None) named) (Some (at, status)) (if names then Some at else named')
same-accepts most k at status true named named' place same = record { of_last = ap (λ n. Some (boundary n status)) place; of_named = ap Some place }
same-accepts most k at status false named named' place same = record { of_last = ap (λ n. Some (boundary n status)) place; of_named = same }

-- what a condition does
holds-step : (most k status : ℕ) (last named : Option Boundary) (last' : Option (ℕ × ℕ)) (named' : Option ℕ) (entries : List Entry) (go : Option (ℕ × ℕ))
    → clamp most (pick_from (suc k) last named entries) ≡ as_boundary go → option_map (λ (f : Boundary). min f.offset most) named ≡ named'
    → clamp most (option_or (option_map (λ (f : Boundary). boundary f.offset status) named) (pick_from (suc k) last named entries))
    ≡ as_boundary (if is_none named' then go else option_map (λ p. (p, status)) named')
holds-step most k status last None last' named' entries go further same =
    further ∙ ap as_boundary (sym (cond-true _ _ _ (ap is_none (sym same))))
holds-step most k status last (Some f) last' named' entries go further same =
    ap as_boundary (ap (option_map (λ p. (p, status))) same ∙ sym (cond-false _ _ _ (ap is_none (sym same))))

entry-step : (most k at : ℕ) (entry : Entry) (accept : ℕ × ℕ × Bool) (last named : Option Boundary) (last' : Option (ℕ × ℕ)) (named' : Option ℕ) (entries : List Entry)
    (go : Option (ℕ × ℕ) → Option ℕ → Option (ℕ × ℕ)) → EntryIs entry accept → min (suc k) most ≡ at → Same most last named last' named'
    → ((last named : Option Boundary) (last' : Option (ℕ × ℕ)) (named' : Option ℕ) → Same most last named last' named'
    → clamp most (pick_from (suc k) last named entries) ≡ as_boundary (go last' named'))
    → clamp most (pick_from k last named (entry ∷ entries))
    ≡ as_boundary (if accept.0 == 0 then go last' named'
    else (if accept.0 == 1 then go (Some (at, accept.1)) (if accept.2 then Some at else named')
    else (if is_none named' then go last' named' else option_map (λ p. (p, accept.1)) named')))
unfolding pick_from
entry-step most k at entry accept last named last' named' entries go (Goes kind accepting naming holding) place same further =
    let none = holding named in
    ap (clamp most) (λ i. option_or (none i) (pick_from (suc k) (newer k (accepting i) last) (newer k (naming i) named) entries))
    ∙ further last named last' named' same
    ∙ ap as_boundary (sym (cond-true _ _ _ (eq-eqb _ _ kind)))
entry-step most k at entry accept last named last' named' entries go (Accepts kind accepting naming holding) place same further =
    let none = holding named in
    let off : (accept.0 == 0) ≡ false = ap (λ n. n == 0) kind in
    ap (clamp most) (λ i. option_or (none i) (pick_from (suc k) (newer k (accepting i) last) (newer k (naming i) named) entries))
    ∙ further _ _ _ _ (same-accepts most k at accept.1 accept.2 named named' place same.of_named)
    ∙ ap as_boundary (sym (cond-false _ _ _ off ∙ cond-true _ _ _ (eq-eqb _ _ kind)))
entry-step most k at entry accept last named last' named' entries go (Holds kind accepting naming holding) place same further =
    let some = holding named in
    let off : (accept.0 == 0) ≡ false = ap (λ n. n == 0) kind in
    let other : (accept.0 == 1) ≡ false = ap (λ n. n == 1) kind in
    ap (clamp most) (λ i. option_or (some i) (pick_from (suc k) (newer k (accepting i) last) (newer k (naming i) named) entries))
    ∙ holds-step most k accept.1 last named last' named' entries (go last' named') (further last named last' named' same) same.of_named
    ∙ ap as_boundary (sym (cond-false _ _ _ off ∙ cond-false _ _ _ other))

module _ (m : Machine) (n : ℕ) (plan : Plan) (is : IsPlan m n plan) where
  abbrev entered : ℕ → List ℕ → List Entry
  entered q xs = map (state_at m) (run m q xs)

  entered-none : (q x : ℕ) (xs : List ℕ) → step m q x ≡ None → entered q (x ∷ xs) ≡ []
  unfolding run
  entered-none q x xs none = ap (λ next. map (state_at m) (option_map_or (λ t. t ∷ run m t xs) next [])) none

  entered-some : (q x t : ℕ) (xs : List ℕ) → step m q x ≡ Some t → entered q (x ∷ xs) ≡ state_at m t ∷ entered t xs
  unfolding run
  entered-some q x t xs leads = ap (λ next. map (state_at m) (option_map_or (λ t. t ∷ run m t xs) next [])) leads

  -- one step, where the plan has it
  machine-step : (most k at q x : ℕ) (last named : Option Boundary) (last' : Option (ℕ × ℕ)) (named' : Option ℕ) (xs : List ℕ)
      (go : Option (ℕ × ℕ) → Option ℕ → Option (ℕ × ℕ)) → q < length m.states → x < suc n → min (suc k) most ≡ at → Same most last named last' named'
      → ((last named : Option Boundary) (last' : Option (ℕ × ℕ)) (named' : Option ℕ) → next_of plan q x < length m.states → Same most last named last' named'
      → clamp most (pick_from (suc k) last named (entered (next_of plan q x) xs)) ≡ as_boundary (go last' named'))
      → clamp most (pick_from k last named (entered q (x ∷ xs)))
      ≡ as_boundary (if next_of plan q x == 255 then last' else (if (accept_of plan (next_of plan q x)).0 == 0 then go last' named'
      else (if (accept_of plan (next_of plan q x)).0 == 1 then go (Some (at, (accept_of plan (next_of plan q x)).1)) (if (accept_of plan (next_of plan q x)).2 then Some at else named')
      else (if is_none named' then go last' named' else option_map (λ p. (p, (accept_of plan (next_of plan q x)).1)) named'))))
  unfolding pick_from
  machine-step most k at q x last named last' named' xs go below small place same further =
      let t = next_of plan q x in
      let leads = is.leads q x below small in
      elim (bool-cases (t == 255)) [
        | inl none ↦
            ap (λ es. clamp most (pick_from k last named es)) (entered-none q x xs (leads ∙ cond-true _ _ _ none))
            ∙ same.of_last ∙ ap as_boundary (sym (cond-true _ _ _ none))
        | inr some ↦
            ap (λ es. clamp most (pick_from k last named es)) (entered-some q x t xs (leads ∙ cond-false _ _ _ some))
            ∙ entry-step most k at (state_at m t) (accept_of plan t) last named last' named' (entered t xs) go (entry-is _ _ (is.accepts t)) place same
            (λ last named last' named' same. further last named last' named' (is.within q x below small some) same)
            ∙ ap as_boundary (sym (cond-false _ _ _ some))
      ]

  fold-zeros : (fuel most k q : ℕ) (last named : Option Boundary) (last' : Option (ℕ × ℕ)) (named' : Option ℕ) → q < length m.states → most ≤ k
      → Same most last named last' named' → clamp most (pick_from k last named (entered q (replicate fuel 0))) ≡ as_boundary (zeros plan fuel most q last' named')
  unfolding zeros run pick_from
  fold-zeros zero most k q last named last' named' below past same = same.of_last
  fold-zeros (suc fuel) most k q last named last' named' below past same =
      machine-step most k most q 0 last named last' named' (replicate fuel 0) (λ l n. zeros plan fuel most (next_of plan q 0) l n) below (omega arith) (omega (arith, past)) same
      (λ last named last' named' below same. fold-zeros fuel most (suc k) (next_of plan q 0) last named last' named' below (omega (arith, past)) same)

  abbrev pub Small : List ℕ → Type 0
  Small [] = Unit {0}
  Small (x ∷ rest) = (x < suc n) × Small rest

  fold-finish : (fuel most : ℕ) (rest : List ℕ) (k q : ℕ) (last named : Option Boundary) (last' : Option (ℕ × ℕ)) (named' : Option ℕ) → q < length m.states
      → k + length rest ≡ most → Small rest → Same most last named last' named'
      → clamp most (pick_from k last named (entered q (rest ++ replicate fuel 0))) ≡ as_boundary (finish plan fuel k q last' named' rest)
  unfolding finish
  fold-finish fuel most [] k q last named last' named' below whole small same =
      let place : k ≡ most = omega (arith, whole) in
      fold-zeros fuel most k q last named last' named' below (omega (arith, whole)) same
      ∙ ap (λ k. as_boundary (zeros plan fuel k q last' named')) (sym place)
  fold-finish fuel most (x ∷ rest) k q last named last' named' below whole small same =
      machine-step most k (suc k) q x last named last' named' (rest ++ replicate fuel 0) (λ l n. finish plan fuel (suc k) (next_of plan q x) l n rest) below small.0
      (omega (arith, whole)) same
      (λ last named last' named' below same. fold-finish fuel most rest (suc k) (next_of plan q x) last named last' named' below (omega (arith, whole)) small.1 same)

  singles : (states : List ℕ) → each_single (map (state_at m) states) ≡ true
  unfolding each_single
  singles [] = refl
  singles (q ∷ states) = ap₂ ◌&&◌ (entry-single (state_at m q) (accept_of plan q) (is.accepts q)) (singles states)

  -- Law: the engine's pick is the plan's
  pub pick-finish : (symbols : List ℕ) → Small symbols → pick m symbols ≡ as_boundary (finish plan (length m.states) 0 0 None None symbols)
  unfolding pick scan last_step
  pick-finish symbols small =
      let enough = is.some in
      let whole : 0 + length symbols ≡ length symbols = omega arith in
      ap (clamp (length symbols)) (fold-pick [] (entered 0 (symbols ++ replicate (length m.states) 0)) (singles (run m 0 (symbols ++ replicate (length m.states) 0))))
      ∙ fold-finish (length m.states) (length symbols) symbols 0 0 None None None None (omega (arith, enough)) whole small (record { of_last = refl; of_named = refl })
