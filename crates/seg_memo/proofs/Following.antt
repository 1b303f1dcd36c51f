-- What follows a configuration, its outcome, and what a scan looks up from it on.
use Rattle.std.proofs.Common.{◌≡◌, ◌⊎◌, ℕ, suc, ◌+◌, ◌-◌, ◌^◌, ◌<◌, ◌≤◌, ◌==◌, Bool, true, false, if◌then◌else◌, Option, Some, None, List, [], ◌∷◌, ◌++◌, length, drop, get_or, map, replicate, min, refl, sym, ap, ◌∙◌, subst, arith, drop-cons, inl, inr, length-append}
use Rattle.std.specs.Prelude.{IfSome}
use Rattle.std.specs.Option.{option_map_or}
use Rattle.std.proofs.lemmas.Bool.{cases_lt, cases_eq, ne_eqb, eq-eqb}
use Rattle.std.proofs.lemmas.List.{get_or_past, drop_all, length-drop, length-replicate}
use Rattle.std.proofs.lemmas.Nat.{or_lt, pow_below}
use Rattle.seg_memo.specs.Configurations.{Boundary, Acceptance, Continue, Accept, Conditional, Configuration, Outcome, Nothing, Picked, Kept, LookUp, Ends, Leads, Subject, configuration, following, condition_held, entering, look_ups_on, look_ups, entered, at, outcome, outcome_at, arrival, look_up}
use Rattle.seg_text.specs.Boundaries.{boundary}
use Rattle.seg_machine.specs.Machine.{Machine, step, run, state_at}
use Rattle.seg_machine.specs.MachineFaults.{NamesPast, IsChecked}
use Rattle.seg_machine.specs.Search.{keep}
use Rattle.seg_machine.proofs.Scanned.{run-more}
use Rattle.seg_memo.specs.Grids.{IsSound, IsConfigurationOf, IsOn}

-- a configuration comes after another
pub record Follows (s : Subject) (before after : Configuration) : Type 0 where
  pub states : following s before ≡ after.state ∷ following s after
  pub free : condition_held before.kept (state_at s.machine after.state) ≡ None
  pub kept : after.kept ≡ keep before.kept (state_at s.machine after.state).1
  pub place : after.place ≡ min (suc before.place) (length s.symbols)

-- the states that come, by the first symbol: that of the item at the place, or the end's
abbrev BeginsBy : Subject → Configuration → ℕ → Type 0
BeginsBy s c symbol =
    following s c
    ≡ option_map_or {T = ℕ} {U = List ℕ}
    (λ next. next ∷ run s.machine next (drop (min (suc c.place) (length s.symbols)) s.symbols ++ replicate (length s.machine.states) 0)) (step s.machine c.state symbol) []

run-cons : (m : Machine) (state symbol : ℕ) (rest : List ℕ) → run m state (symbol ∷ rest) ≡ option_map_or {T = ℕ} {U = List ℕ} (λ next. next ∷ run m next rest) (step m state symbol) []
unfolding run
run-cons m state symbol rest = refl

begins-item : (s : Subject) (c : Configuration) → c.place < length s.symbols → BeginsBy s c (get_or s.symbols c.place 0)
unfolding following
begins-item s c less =
    let after : min (suc c.place) (length s.symbols) ≡ suc c.place = omega arith in
    rw (after, drop-cons s.symbols c.place 0 less)
    (run-cons s.machine c.state (get_or s.symbols c.place 0) (drop (suc c.place) s.symbols ++ replicate (length s.machine.states) 0))

begins-end : (s : Subject) (c : Configuration) → IsChecked s.machine → c.state < length s.machine.states → c.place ≡ length s.symbols → BeginsBy s c 0
unfolding following
begins-end s c checked state here =
    let after : min (suc c.place) (length s.symbols) ≡ length s.symbols = omega arith in
    rw (after, here, drop_all (length s.symbols) s.symbols (omega arith))
    (sym (run-more s.machine (length s.machine.states) c.state (checked.ends c.state state))
    ∙ run-cons s.machine c.state 0 (replicate (length s.machine.states) 0))

begins : (s : Subject) (c : Configuration) → IsChecked s.machine → IsConfigurationOf s c → BeginsBy s c (get_or s.symbols c.place 0)
begins s c checked within =
    elim (cases_lt c.place (length s.symbols)) [
      | inl less ↦ begins-item s c less
      | inr past ↦
          let here : c.place ≡ length s.symbols = omega (arith, within.place) in
          rw (get_or_past s.symbols c.place 0 past) (begins-end s c checked within.state here)
    ]

follows-none : (s : Subject) (c : Configuration) → IsChecked s.machine → IsConfigurationOf s c → step s.machine c.state (get_or s.symbols c.place 0) ≡ None → following s c ≡ []
follows-none s c checked within none = begins s c checked within ∙ rw none refl

follows-some : (s : Subject) (c d : Configuration) → IsChecked s.machine → IsConfigurationOf s c → step s.machine c.state (get_or s.symbols c.place 0) ≡ Some d.state
    → d.place ≡ min (suc c.place) (length s.symbols) → following s c ≡ d.state ∷ following s d
unfolding following
follows-some s c d checked within some place = begins s c checked within ∙ rw (some, place) refl

-- the outcomes
at-none : (move : ℕ → ℕ) (kept : ℕ) → at move (outcome kept []) ≡ Nothing
unfolding outcome
at-none move kept = refl

pub outcome-nil : (kept : ℕ) → outcome kept [] ≡ Nothing
unfolding outcome
outcome-nil kept = refl

outcome-none : (s : Subject) (c : Configuration) → following s c ≡ [] → outcome_at s c ≡ Nothing
unfolding outcome_at
outcome-none s c none = rw none (at-none _ c.kept)

pub outcome-cons : (kept : ℕ) (state : Acceptance × Option ℕ) (states : List (Acceptance × Option ℕ)) (found : Option (ℕ × ℕ)) → condition_held kept state ≡ found
    → outcome kept (state ∷ states) ≡ option_map_or {T = ℕ × ℕ} {U = Outcome} (λ f. Kept f.0 f.1) found (entered 1 state (at suc (outcome (keep kept state.1) states)))
unfolding outcome
outcome-cons kept state states found is = rw is refl

outcome-held : (s : Subject) (c : Configuration) (next : ℕ) (states : List ℕ) (f : ℕ × ℕ) → following s c ≡ next ∷ states
    → condition_held c.kept (state_at s.machine next) ≡ Some f → outcome_at s c ≡ Kept f.0 f.1
unfolding outcome_at
outcome-held s c next states f is holds =
    rw (is, outcome-cons c.kept (state_at s.machine next) (map (state_at s.machine) states) (Some f) holds) refl

at-entered : (place items : ℕ) (state : Acceptance × Option ℕ) (o : Outcome)
    → at (λ steps. min (place + steps) items) (entered 1 state (at suc o)) ≡ entered (min (suc place) items) state (at (λ steps. min (min (suc place) items + steps) items) o)
at-entered place items (Accept status, name) Nothing = ap (λ (k : ℕ). Picked (boundary k status)) (omega arith)
at-entered place items (Continue, name) Nothing = refl
at-entered place items (Conditional lookahead status, name) Nothing = refl
at-entered place items (acceptance, name) (Picked later) = ap (λ (k : ℕ). Picked (boundary k later.status)) (omega arith)
at-entered place items (acceptance, None) (Kept lookahead status) = refl
at-entered place items (acceptance, Some name) (Kept lookahead status) =
    elim (cases_eq name lookahead) [
      | inl same ↦ rw (eq-eqb name lookahead same) (ap (λ (k : ℕ). Picked (boundary k status)) (omega arith))
      | inr other ↦ rw (ne_eqb name lookahead other) refl
    ]

at-after : (place items after : ℕ) (state : Acceptance × Option ℕ) (o : Outcome) → after ≡ min (suc place) items
    → at (λ steps. min (place + steps) items) (entered 1 state (at suc o)) ≡ entered after state (at (λ steps. min (after + steps) items) o)
at-after place items after state o is = rw is (at-entered place items state o)

outcome-follows : (s : Subject) (c d : Configuration) → Follows s c d → outcome_at s c ≡ entered d.place (state_at s.machine d.state) (outcome_at s d)
unfolding outcome_at
outcome-follows s c d f =
    rw (f.states, outcome-cons c.kept (state_at s.machine d.state) (map (state_at s.machine) (following s d)) None f.free, ← f.kept)
    (at-after c.place (length s.symbols) d.place (state_at s.machine d.state) (outcome d.kept (map (state_at s.machine) (following s d))) f.place)

-- a segment's end is past the configuration, but at the end of the text

pub entered-cases : (place : ℕ) (state : Acceptance × Option ℕ) (o : Outcome) (found : Boundary) → entered place state o ≡ Picked found → (found.offset ≡ place) ⊎ (o ≡ Picked found)
entered-cases place (Accept status, name) Nothing found is = let same : boundary place status ≡ found = cc in inl (ap (λ (b : Boundary). b.offset) (sym same))
entered-cases place (Continue, name) Nothing found is = cc
entered-cases place (Conditional lookahead status, name) Nothing found is = cc
entered-cases place (acceptance, name) (Picked later) found is = inr is
entered-cases place (acceptance, None) (Kept lookahead status) found is = cc
entered-cases place (acceptance, Some name) (Kept lookahead status) found is = on (name == lookahead) is
  where
    on : (same : Bool) → (if same then Picked (boundary place status) else Kept lookahead status) ≡ Picked found → (found.offset ≡ place) ⊎ (Kept lookahead status ≡ Picked found)
    on true is = let same : boundary place status ≡ found = cc in inl (ap (λ (b : Boundary). b.offset) (sym same))
    on false is = cc

at-past : (o : Outcome) (found : Boundary) → at suc o ≡ Picked found → 0 < found.offset
at-past Nothing found is = cc
at-past (Kept lookahead status) found is = cc
at-past (Picked first) found is =
    let same : boundary (suc first.offset) first.status ≡ found = cc in
    let offset : suc first.offset ≡ found.offset = ap (λ (b : Boundary). b.offset) same in
    omega (arith, offset)

outcome-past : (kept : ℕ) (states : List (Acceptance × Option ℕ)) (found : Boundary) → outcome kept states ≡ Picked found → 0 < found.offset
outcome-past kept [] found is = let never : Nothing ≡ Picked found = sym (outcome-nil kept) ∙ is in cc
outcome-past kept (state ∷ states) found is = on (condition_held kept state) refl
  where
    on : (held : Option (ℕ × ℕ)) → condition_held kept state ≡ held → 0 < found.offset
    on None free =
        let o = outcome (keep kept state.1) states in
        elim (entered-cases 1 state (at suc o) found (sym (outcome-cons kept state states None free) ∙ is)) [ inl one ↦ omega (arith, one) | inr later ↦ at-past o found later ]
    on (Some f) holds = let never : Kept f.0 f.1 ≡ Picked found = sym (outcome-cons kept state states (Some f) holds) ∙ is in cc

pub outcome-at : (s : Subject) (c : Configuration) → outcome_at s c ≡ at (λ steps. min (c.place + steps) (length s.symbols)) (outcome c.kept (map (state_at s.machine) (following s c)))
unfolding outcome_at
outcome-at s c = refl

pub picked-past : (s : Subject) (c : Configuration) (found : Boundary) → found.offset < length s.symbols → outcome_at s c ≡ Picked found → c.place < found.offset
picked-past s c found less is = on (outcome c.kept (map (state_at s.machine) (following s c))) refl (sym (outcome-at s c) ∙ is)
  where
    on : (o : Outcome) → outcome c.kept (map (state_at s.machine) (following s c)) ≡ o → at (λ steps. min (c.place + steps) (length s.symbols)) o ≡ Picked found → c.place < found.offset
    on Nothing e picks = cc
    on (Kept lookahead status) e picks = cc
    on (Picked first) e picks =
        let same : boundary (min (c.place + first.offset) (length s.symbols)) first.status ≡ found = cc in
        let offset : min (c.place + first.offset) (length s.symbols) ≡ found.offset = ap (λ (b : Boundary). b.offset) same in
        let past : 0 < first.offset = outcome-past c.kept (map (state_at s.machine) (following s c)) first e in
        omega (arith, offset, past, less)

pub same-picked : (a b : Boundary) → Picked a ≡ Picked b → a ≡ b
same-picked a b is = cc

-- what a scan looks up from a configuration on

look-ups-nil : (s : Subject) (c : Configuration) → look_ups_on s c [] ≡ c ∷ []
unfolding look_ups_on
look-ups-nil s c = refl

look-ups-cons : (s : Subject) (c : Configuration) (next : ℕ) (states : List ℕ) (found : Option (ℕ × ℕ)) → condition_held c.kept (state_at s.machine next) ≡ found
    → look_ups_on s c (next ∷ states) ≡ c ∷ option_map_or {T = ℕ × ℕ} {U = List Configuration} (λ f. []) found (look_ups_on s (entering s c next) states)
unfolding look_ups_on
look-ups-cons s c next states found is = rw is refl

-- it looks up that configuration
pub look-ups-on : (s : Subject) (c : Configuration) → IsOn c (look_ups s c)
unfolding look_ups
look-ups-on s c = on (following s c)
  where
    on : (states : List ℕ) → IsOn c (look_ups_on s c states)
    on [] = subst (IsOn c) (sym (look-ups-nil s c)) (inl refl)
    on (next ∷ states) = subst (IsOn c) (sym (look-ups-cons s c next states (condition_held c.kept (state_at s.machine next)) refl)) (inl refl)

look-ups-none : (s : Subject) (c : Configuration) → following s c ≡ [] → look_ups s c ≡ c ∷ []
unfolding look_ups
look-ups-none s c none = rw none (look-ups-nil s c)

look-ups-held : (s : Subject) (c : Configuration) (next : ℕ) (states : List ℕ) (f : ℕ × ℕ) → following s c ≡ next ∷ states
    → condition_held c.kept (state_at s.machine next) ≡ Some f → look_ups s c ≡ c ∷ []
unfolding look_ups
look-ups-held s c next states f is holds = rw is (look-ups-cons s c next states (Some f) holds)

look-ups-follows : (s : Subject) (c d : Configuration) → Follows s c d → look_ups s c ≡ c ∷ look_ups s d
unfolding look_ups
look-ups-follows s c d f =
    ap (look_ups_on s c) f.states
    ∙ look-ups-cons s c d.state (following s d) None f.free
    ∙ ap (λ (p : ℕ). c ∷ look_ups_on s (configuration d.state p (keep c.kept (state_at s.machine d.state).1)) (following s d)) (sym f.place)
    ∙ ap (λ (k : ℕ). c ∷ look_ups_on s (configuration d.state d.place k) (following s d)) (sym f.kept)

-- one look-up

pub look-up-none : (s : Subject) (c : Configuration) → step s.machine c.state (get_or s.symbols c.place 0) ≡ None → look_up s c ≡ Ends Nothing
unfolding look_up
look-up-none s c none = rw none refl

pub look-up-some : (s : Subject) (c : Configuration) (next : ℕ) → step s.machine c.state (get_or s.symbols c.place 0) ≡ Some next
    → look_up s c ≡ arrival (state_at s.machine next) next (min (suc c.place) (length s.symbols)) c.kept
unfolding look_up
look-up-some s c next some = rw some refl

pub look-up-held : (s : Subject) (c : Configuration) (next : ℕ) (f : ℕ × ℕ) → step s.machine c.state (get_or s.symbols c.place 0) ≡ Some next
    → condition_held c.kept (state_at s.machine next) ≡ Some f → look_up s c ≡ Ends (Kept f.0 f.1)
look-up-held s c next f some holds = look-up-some s c next some ∙ rw holds refl

pub look-up-leads : (s : Subject) (c : Configuration) (next : ℕ) → step s.machine c.state (get_or s.symbols c.place 0) ≡ Some next
    → condition_held c.kept (state_at s.machine next) ≡ None → look_up s c ≡ Leads (entering s c next)
look-up-leads s c next some free = look-up-some s c next some ∙ rw free refl

-- so it gives one of three
pub looks : (s : Subject) (c : Configuration) (P : LookUp → Type 0) → (step s.machine c.state (get_or s.symbols c.place 0) ≡ None → P (Ends Nothing))
    → ((next : ℕ) (f : ℕ × ℕ) → step s.machine c.state (get_or s.symbols c.place 0) ≡ Some next → condition_held c.kept (state_at s.machine next) ≡ Some f → P (Ends (Kept f.0 f.1)))
    → ((next : ℕ) → step s.machine c.state (get_or s.symbols c.place 0) ≡ Some next → condition_held c.kept (state_at s.machine next) ≡ None → P (Leads (entering s c next))) → P (look_up s c)
looks s c P none held free = on (step s.machine c.state (get_or s.symbols c.place 0)) refl
  where
    over : (next : ℕ) → step s.machine c.state (get_or s.symbols c.place 0) ≡ Some next → (f : Option (ℕ × ℕ)) → condition_held c.kept (state_at s.machine next) ≡ f → P (look_up s c)
    over next some None is = subst P (sym (look-up-leads s c next some is)) (free next some is)
    over next some (Some f) is = subst P (sym (look-up-held s c next f some is)) (held next f some is)

    on : (found : Option ℕ) → step s.machine c.state (get_or s.symbols c.place 0) ≡ found → P (look_up s c)
    on None is = subst P (sym (look-up-none s c is)) (none is)
    on (Some next) is = over next is (condition_held c.kept (state_at s.machine next)) refl

-- what is read of a state of a checked machine
pub names-few : (m : Machine) (next : ℕ) → IsChecked m → NamesPast 8 (state_at m next) → ⊥
names-few m next checked past = checked.lookaheads next (on (state_at m next) past)
  where
    on : (state : Acceptance × Option ℕ) → NamesPast 8 state → NamesPast m.num_lookaheads state
    on (Continue, None) past = past
    on (Accept status, None) past = past
    on (Conditional lookahead status, None) past = elim past [ inl named ↦ absurd named | inr asked ↦ inr (omega (arith, asked, checked.few_lookaheads)) ]
    on (Continue, Some name) past = elim past [ inl named ↦ inl (omega (arith, named, checked.few_lookaheads)) | inr asked ↦ absurd asked ]
    on (Accept status, Some name) past = elim past [ inl named ↦ inl (omega (arith, named, checked.few_lookaheads)) | inr asked ↦ absurd asked ]
    on (Conditional lookahead status, Some name) past =
        elim past [ inl named ↦ inl (omega (arith, named, checked.few_lookaheads)) | inr asked ↦ inr (omega (arith, asked, checked.few_lookaheads)) ]

keep-below : (m : Machine) (kept next : ℕ) → IsChecked m → kept < 2 ^ m.num_lookaheads → keep kept (state_at m next).1 < 2 ^ m.num_lookaheads
keep-below m kept next checked small = on (state_at m next) (checked.lookaheads next)
  where
    on : (state : Acceptance × Option ℕ) → (NamesPast m.num_lookaheads state → ⊥) → keep kept state.1 < 2 ^ m.num_lookaheads
    on (acceptance, None) named = small
    on (acceptance, Some name) named =
        elim (cases_lt name m.num_lookaheads) [
          | inl below ↦ or_lt m.num_lookaheads kept (2 ^ name) small (pow_below name m.num_lookaheads below)
          | inr past ↦ absurd (named (inl past))
        ]

-- it leads on to a configuration of the text
pub step-within : (s : Subject) (c : Configuration) (next : ℕ) → IsSound s → IsConfigurationOf s c → step s.machine c.state (get_or s.symbols c.place 0) ≡ Some next
    → next < length s.machine.states
step-within s c next sound within is =
    subst (λ (found : Option ℕ). IfSome found (λ n. n < length s.machine.states)) is (sound.checked.in_range c.state (get_or s.symbols c.place 0) within.state (sound.own c.place))

pub leads-within : (s : Subject) (c d : Configuration) → IsSound s → IsConfigurationOf s c → look_up s c ≡ Leads d → IsConfigurationOf s d
leads-within s c d sound within =
    looks s c (λ found. found ≡ Leads d → IsConfigurationOf s d) (λ none is. cc) (λ next f some holds is. cc)
    (λ next some free is.
    let one : entering s c next ≡ d = cc in
    subst (IsConfigurationOf s) one (record {
      state = step-within s c next sound within some;
      place = omega arith;
      kept = keep-below s.machine c.kept next sound.checked within.kept;
    }))

pub leads : (s : Subject) (c d : Configuration) → IsSound s → IsConfigurationOf s c → look_up s c ≡ Leads d → Follows s c d
leads s c d sound within =
    looks s c (λ found. found ≡ Leads d → Follows s c d) (λ none is. cc) (λ next f some holds is. cc)
    (λ next some free is.
    let one : entering s c next ≡ d = cc in
    subst (Follows s c) one (record { states = follows-some s c (entering s c next) sound.checked within some refl; free = free; kept = refl; place = refl }))

-- or is the last of its scan
pub record IsLast (s : Subject) (c : Configuration) (o : Outcome) : Type 0 where
  pub outcome_is : outcome_at s c ≡ o
  pub alone : look_ups s c ≡ c ∷ []

pub ends : (s : Subject) (c : Configuration) (o : Outcome) → IsSound s → IsConfigurationOf s c → look_up s c ≡ Ends o → IsLast s c o
ends s c o sound within =
    looks s c (λ found. found ≡ Ends o → IsLast s c o)
    (λ none is.
    let one : Nothing ≡ o = cc in
    let stops = follows-none s c sound.checked within none in
    record { outcome_is = outcome-none s c stops ∙ one; alone = look-ups-none s c stops })
    (λ next f some holds is.
    let one : Kept f.0 f.1 ≡ o = cc in
    let comes = follows-some s c (entering s c next) sound.checked within some refl in
    record { outcome_is = outcome-held s c next _ f comes holds ∙ one; alone = look-ups-held s c next _ f comes holds })
    (λ next some free is. cc)

pub outcome-leads : (s : Subject) (c d : Configuration) → IsSound s → IsConfigurationOf s c → look_up s c ≡ Leads d → outcome_at s c ≡ entered d.place (state_at s.machine d.state) (outcome_at s d)
outcome-leads s c d sound within is = outcome-follows s c d (leads s c d sound within is)

pub look-ups-leads : (s : Subject) (c d : Configuration) → IsSound s → IsConfigurationOf s c → look_up s c ≡ Leads d → look_ups s c ≡ c ∷ look_ups s d
look-ups-leads s c d sound within is = look-ups-follows s c d (leads s c d sound within is)

pub states-lead : (s : Subject) (c d : Configuration) → IsSound s → IsConfigurationOf s c → look_up s c ≡ Leads d → following s c ≡ d.state ∷ following s d
states-lead s c d sound within is = (leads s c d sound within is).states

-- fewer states come after it
pub fewer : (s : Subject) (c d : Configuration) → IsSound s → IsConfigurationOf s c → look_up s c ≡ Leads d → length (following s d) < length (following s c)
fewer s c d sound within is = let e : length (following s c) ≡ suc (length (following s d)) = ap length (states-lead s c d sound within is) in omega arith

-- and no more than there are symbols to read
run-bound : (m : Machine) (state : ℕ) (symbols : List ℕ) → length (run m state symbols) ≤ length symbols
unfolding run
run-bound m state [] = omega arith
run-bound m state (symbol ∷ symbols) = on (λ next. run-bound m next symbols) (step m state symbol)
  where
    on : ((next : ℕ) → length (run m next symbols) ≤ length symbols) → (found : Option ℕ)
        → length (option_map_or {T = ℕ} {U = List ℕ} (λ next. next ∷ run m next symbols) found []) ≤ suc (length symbols)
    on most None = omega arith
    on most (Some next) = omega (arith, most next)

pub few : (s : Subject) (c : Configuration) → length (following s c) ≤ length s.symbols + length s.machine.states
unfolding following
few s c =
    let most = run-bound s.machine c.state (drop c.place s.symbols ++ replicate (length s.machine.states) 0) in
    let all : length (drop c.place s.symbols ++ replicate (length s.machine.states) 0) ≡ length (drop c.place s.symbols) + length {A = ℕ} (replicate (length s.machine.states) 0) = length-append (drop c.place s.symbols) (replicate (length s.machine.states) 0) in
    let left : length (drop c.place s.symbols) ≡ length s.symbols - c.place = length-drop c.place s.symbols in
    let steps : length {A = ℕ} (replicate (length s.machine.states) 0) ≡ length s.machine.states = length-replicate (length s.machine.states) 0 in
    omega (arith, most, all, left, steps)
