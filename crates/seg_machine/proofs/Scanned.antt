-- The scan of a text, step by step.
use Rattle.std.proofs.Common.{◌≡◌, ◌≢◌, ℕ, zero, suc, ◌<◌, ◌≤◌, ◌==◌, Option, Some, None, List, [], ◌∷◌, ◌++◌, length, replicate, min, IsSome, refl, sym, ◌∙◌, ap, arith, eq-eqb, ◌+◌, append_assoc, append-nil, length-append, inl, inr, subst}
use Rattle.std.specs.Option.{option_map, option_map_or, option_or}
use Rattle.seg_text.specs.declared.boundary.Boundary.{Boundary}
use Rattle.seg_text.specs.Boundaries.{boundary, boundary_in}
use Rattle.std.proofs.lemmas.Bool.{cases_lt, cases_eq, cond-true, cond-false, ne_eqb}
use Rattle.std.proofs.Math.ListN.{set}
use Rattle.std.proofs.lemmas.List.{map-append, length-map, length-replicate, drop_min, drop-drop, length-set, get_or-set_same, get_or-set_other}
use Rattle.seg_text.specs.Items.{Item, Text, start_of, rest_after, code_points}
use Rattle.seg_machine.specs.declared.provider.Acceptance.{Acceptance}
use Rattle.seg_machine.specs.declared.provider.Acceptance.TheVariants.{Continue, Accept, Conditional}
use Rattle.seg_machine.specs.Machine.{Machine, symbol_and_script, symbols_of, step, run, scan, state_at}
use Rattle.seg_machine.specs.Pick.{last_step, acceptance_status, naming, condition, first_condition, picked_step, pick}
use Rattle.seg_machine.specs.MachineFaults.{IsChecked, NamesPast}
use Rattle.seg_machine.proofs.Machines.{past-fewer}
use Rattle.seg_machine.proofs.Segmentations.{symbols_of-text}
use Rattle.seg_machine.specs.Scan.{future, entries, place_for, condition_end, acceptance_after, places_after, Remembered, Scanned}
use Rattle.seg_machine.proofs.Steps.{at_step, last_step-push}

-- symbol 0 once more changes nothing, where it leads on less often than it is there
pub run-more : (m : Machine) (n state : ℕ) → length (run m state (replicate n 0)) < n
    → run m state (replicate (suc n) 0) ≡ run m state (replicate n 0)
unfolding run
run-more m zero state less = absurd (omega arith)
run-more m (suc n) state less = on (λ next fewer. run-more m n next fewer) (step m state 0) less
  where
    on : ((next : ℕ) → length (run m next (replicate n 0)) < n → run m next (replicate (suc n) 0) ≡ run m next (replicate n 0))
        → (found : Option ℕ)
        → length (option_map_or {T = ℕ} {U = List ℕ} (λ next. next ∷ run m next (replicate n 0)) found []) < suc n
        → option_map_or {T = ℕ} {U = List ℕ} (λ next. next ∷ run m next (replicate (suc n) 0)) found []
        ≡ option_map_or {T = ℕ} {U = List ℕ} (λ next. next ∷ run m next (replicate n 0)) found []
    on more None fewer = refl
    on more (Some next) fewer = ap (λ (states : List ℕ). next ∷ states) (more next (omega arith))

-- what is still to come begins with the step on the next symbol
abbrev pub BeginsBy : Machine → ℕ → Text → ℕ → Text → Type 0
BeginsBy m state left symbol rest =
    future m state left ≡ option_map_or {T = ℕ} {U = List ℕ} (λ next. next ∷ future m next rest) (step m state symbol) []

pub begins-next : (m : Machine) (left rest : Text) (item : Item) (symbol : ℕ) → left.items ≡ item ∷ rest.items → rest.end ≡ left.end
    → symbol ≡ (symbol_and_script m item.1).0 → (state : ℕ) → BeginsBy m state left symbol rest
unfolding run
begins-next m left rest item symbol l end s state = rw (l, s) refl

run-end : (m : Machine) (state n : ℕ)
    → run m state (replicate (suc n) 0) ≡ option_map_or {T = ℕ} {U = List ℕ} (λ next. next ∷ run m next (replicate n 0)) (step m state 0) []
unfolding run
run-end m state n = refl

pub begins-end : (m : Machine) → IsChecked m → (left rest : Text) → left.items ≡ [] → rest.items ≡ [] → rest.end ≡ left.end → (state : ℕ)
    → state < length m.states → BeginsBy m state left 0 rest
begins-end m checked left rest l r end state here =
    rw (l, r) (sym (run-more m (length m.states) state (checked.ends state here)) ∙ run-end m state (length m.states))

-- where the step leads on, and where it doesn't
begins-some : (m : Machine) (state : ℕ) (left : Text) (symbol : ℕ) (rest : Text) (next : ℕ)
    → BeginsBy m state left symbol rest → step m state symbol ≡ Some next → future m state left ≡ next ∷ future m next rest
begins-some m state left symbol rest next begins leads = begins ∙ rw leads refl

begins-none : (m : Machine) (state : ℕ) (left : Text) (symbol : ℕ) (rest : Text)
    → BeginsBy m state left symbol rest → step m state symbol ≡ None → future m state left ≡ []
begins-none m state left symbol rest begins stops = begins ∙ rw stops refl

-- a choice, seen as places
either-placed : (text : Text) (f g : Option Boundary) → option_map (boundary_in text) (option_or f g) ≡ option_or (option_map (boundary_in text) f) (option_map (boundary_in text) g)
either-placed text None g = refl
either-placed text (Some f) g = refl

at_step-placed : (text : Text) (n place : ℕ) (value : Option ℕ) → place ≡ start_of (rest_after n text) → option_map (boundary_in text) (at_step n value) ≡ at_step place value
at_step-placed text n place None e = refl
at_step-placed text n place (Some v) e = rw e refl

-- nothing is kept at first
none-kept : (n lookahead : ℕ) → place_for (replicate n None) lookahead ≡ None
none-kept zero lookahead = refl
none-kept (suc n) zero = refl
none-kept (suc n) (suc lookahead) = none-kept n lookahead

pub after-after : (n k : ℕ) (text : Text) → rest_after n (rest_after k text) ≡ rest_after (k + n) text
after-after n k text = rw (drop-drop n k text.items) refl

-- what a state names, or asks for, has a place
named-within : (kept : List (Option ℕ)) (acceptance : Acceptance) (name : ℕ) → (NamesPast (length kept) (acceptance, Some name) → ⊥) → name < length kept
named-within kept acceptance name within =
    elim (cases_lt name (length kept)) [ inl below ↦ below | inr past ↦ absurd (within (inl past)) ]

asked-within : (kept : List (Option ℕ)) (lookahead status : ℕ) (name : Option ℕ) → (NamesPast (length kept) (Conditional lookahead status, name) → ⊥) → lookahead < length kept
asked-within kept lookahead status name within =
    elim (cases_lt lookahead (length kept)) [ inl below ↦ below | inr past ↦ absurd (within (inr past)) ]

-- a state more
places-step : (text : Text) (place : ℕ) (entered : List (Acceptance × Option ℕ)) (kept : List (Option ℕ)) (state : Acceptance × Option ℕ) (lookahead : ℕ)
    → place_for kept lookahead ≡ option_map (λ (f : Boundary). start_of (rest_after f.offset text)) (last_step (naming lookahead) entered)
    → place ≡ start_of (rest_after (suc (length entered)) text) → (NamesPast (length kept) state → ⊥)
    → place_for (places_after place state kept) lookahead
    ≡ option_map (λ (f : Boundary). start_of (rest_after f.offset text)) (option_or (at_step (suc (length entered)) (naming lookahead state)) (last_step (naming lookahead) entered))
unfolding places_after
places-step text place entered kept (acceptance, None) lookahead before here within = before
places-step text place entered kept (acceptance, Some name) lookahead before here within =
    elim (cases_eq name lookahead) [
      | inl same ↦ rw (cond-true (name == lookahead) (Some name) None (eq-eqb name lookahead same))
          (subst (λ (l : ℕ). place_for (set kept name (Some place)) l ≡ Some (start_of (rest_after (suc (length entered)) text))) same
          (get_or-set_same kept name (Some place) None (named-within kept acceptance name within) ∙ ap Some here))
      | inr other ↦ rw (cond-false (name == lookahead) (Some name) None (ne_eqb name lookahead other))
          (get_or-set_other kept name lookahead (Some place) None (λ same. other (sym same)) ∙ before)
    ]

length-keep : (place : ℕ) (state : Acceptance × Option ℕ) (kept : List (Option ℕ)) → length (places_after place state kept) ≡ length kept
unfolding places_after
length-keep place (acceptance, None) kept = refl
length-keep place (acceptance, Some name) kept = length-set kept name (Some place)

last-step : (text : Text) (place : ℕ) (entered : List (Acceptance × Option ℕ)) (state : Acceptance × Option ℕ) (last : Option Boundary)
    → last ≡ option_map (boundary_in text) (last_step acceptance_status entered) → place ≡ start_of (rest_after (suc (length entered)) text)
    → acceptance_after place state last ≡ option_map (boundary_in text) (last_step acceptance_status (entered ++ state ∷ []))
unfolding acceptance_after
last-step text place entered state last before here =
    sym (ap (option_map (boundary_in text)) (last_step-push acceptance_status entered state)
    ∙ either-placed text (at_step (suc (length entered)) (acceptance_status state)) (last_step acceptance_status entered)
    ∙ ap (λ (f : Option Boundary). option_or f (option_map (boundary_in text) (last_step acceptance_status entered))) (at_step-placed text (suc (length entered)) place (acceptance_status state) here)
    ∙ ap (option_or (at_step place (acceptance_status state))) (sym before))

remembered-step : (text : Text) (place : ℕ) (entered : List (Acceptance × Option ℕ)) (state : Acceptance × Option ℕ) (kept : List (Option ℕ)) (last : Option Boundary)
    → Remembered text entered kept last → place ≡ start_of (rest_after (suc (length entered)) text) → (NamesPast (length kept) state → ⊥)
    → Remembered text (entered ++ state ∷ []) (places_after place state kept) (acceptance_after place state last)
remembered-step text place entered state kept last r here within = record {
  places = λ lookahead below.
      rw (last_step-push (naming lookahead) entered state)
      (places-step text place entered kept state lookahead (r.places lookahead (rw (length-keep place state kept) at below)) here within);
  accepted_last = last-step text place entered state last r.accepted_last here;
}

-- a condition holds just where a place is kept, and picks it
held-condition : (text : Text) (entered : List (Acceptance × Option ℕ)) (state : Acceptance × Option ℕ) (kept : List (Option ℕ)) (last : Option Boundary)
    → Remembered text entered kept last → (NamesPast (length kept) state → ⊥)
    → condition_end kept state ≡ option_map (boundary_in text) (condition entered state)
unfolding condition_end
held-condition text entered (Continue, name) kept last r within = refl
held-condition text entered (Accept status, name) kept last r within = refl
held-condition text entered (Conditional lookahead status, name) kept last r within =
    rw (r.places lookahead (asked-within kept lookahead status name within)) (on (last_step (naming lookahead) entered))
  where
    on : (f : Option Boundary) → option_map {T = ℕ} {U = Boundary} (λ place. boundary place status) (option_map (λ (f : Boundary). start_of (rest_after f.offset text)) f)
        ≡ option_map (boundary_in text) (option_map (λ (f : Boundary). boundary f.offset status) f)
    on None = refl
    on (Some f) = refl

-- the first condition that holds, where a state comes
pub first_condition-none : (entered states : List (Acceptance × Option ℕ)) (state : Acceptance × Option ℕ) → condition entered state ≡ None
    → first_condition entered (state ∷ states) ≡ first_condition (entered ++ state ∷ []) states
unfolding first_condition
first_condition-none entered states state none = rw none refl

pub first_condition-some : (entered states : List (Acceptance × Option ℕ)) (state : Acceptance × Option ℕ) (found : Boundary) → condition entered state ≡ Some found
    → first_condition entered (state ∷ states) ≡ Some found
unfolding first_condition
first_condition-some entered states state found some = rw some refl

pub first_condition-nil : (entered : List (Acceptance × Option ℕ)) → first_condition entered [] ≡ None
unfolding first_condition
first_condition-nil entered = refl

none-placed : (text : Text) (f : Option Boundary) → None ≡ option_map (boundary_in text) f → f ≡ None
none-placed text None is = refl
none-placed text (Some f) is = cc

some-placed : (text : Text) (found : Boundary) (f : Option Boundary) → Some found ≡ option_map (boundary_in text) f
    → (n : Boundary) × (f ≡ Some n) × (found ≡ boundary_in text n)
some-placed text found None is = cc
some-placed text found (Some n) is = (n, refl, cc)

-- the pick as a place: the end is as far as places go
pick-placed : (m : Machine) (text : Text) (found : Option Boundary)
    → picked_step (entries m (scan m (symbols_of m (code_points text.items)))) ≡ found
    → option_map (boundary_in text) (pick m (symbols_of m (code_points text.items))) ≡ option_map (boundary_in text) found
unfolding pick
pick-placed m text found is = rw is (on found)
  where
    on : (f : Option Boundary) → option_map (boundary_in text) (option_map (λ (g : Boundary). boundary (min g.offset (length (symbols_of m (code_points text.items)))) g.status) f) ≡ option_map (boundary_in text) f
    on None = refl
    on (Some f) = rw (length-map, length-map, drop_min) refl

pub scanned-start : (m : Machine) (text : Text) (kept : List (Option ℕ)) (places : ℕ) → IsChecked m
    → m.num_lookaheads ≤ places → kept ≡ replicate places None → Scanned m text 0 text kept None
unfolding scan last_step
scanned-start m text kept places checked enough none = record {
  entered = [];
  whole = refl;
  rest = refl;
  in_range = checked.some_state;
  none_held = refl;
  size = omega (arith, enough, ap length none ∙ length-replicate places None);
  remembered = record { places = λ lookahead below. rw none (none-kept places lookahead); accepted_last = refl };
}

-- what a state may name, by the places that there are
pub within : (m : Machine) (state : ℕ) (kept : List (Option ℕ)) → IsChecked m → m.num_lookaheads ≤ length kept
    → NamesPast (length kept) (state_at m state) → ⊥
within m state kept checked size past = checked.lookaheads state (past-fewer m.num_lookaheads (length kept) _ size past)

-- a turn of the loop that goes on
pub scanned-step : (m : Machine) (text : Text) (state : ℕ) (left : Text) (kept : List (Option ℕ)) (last : Option Boundary)
    (symbol : ℕ) (rest : Text) (next place : ℕ)
    → IsChecked m → Scanned m text state left kept last → BeginsBy m state left symbol rest → step m state symbol ≡ Some next
    → next < length m.states → rest ≡ rest_after 1 left → place ≡ start_of rest → None ≡ condition_end kept (state_at m next)
    → Scanned m text next rest (places_after place (state_at m next) kept) (acceptance_after place (state_at m next) last)
scanned-step m text state left kept last symbol rest next place checked s begins leads bound r p none =
    let future-is = begins-some m state left symbol rest next begins leads in
    let names = within m next kept checked s.size in
    let more : rest ≡ rest_after (length s.entered + 1) text = r ∙ ap (rest_after 1) s.rest ∙ after-after 1 (length s.entered) text in
    let long : length (s.entered ++ next ∷ []) ≡ length s.entered + 1 = length-append s.entered (next ∷ []) in
    let count : suc (length (entries m s.entered)) ≡ length s.entered + 1 = omega (arith, length-map s.entered (state_at m)) in
    let here : place ≡ start_of (rest_after (suc (length (entries m s.entered))) text) = p ∙ ap start_of (more ∙ ap (λ (n : ℕ). rest_after n text) (sym count)) in
    let pushed : entries m (s.entered ++ next ∷ []) ≡ entries m s.entered ++ state_at m next ∷ [] = map-append (state_at m) s.entered (next ∷ []) in
    let no-condition : condition (entries m s.entered) (state_at m next) ≡ None = none-placed text _ (none ∙ held-condition text (entries m s.entered) (state_at m next) kept last s.remembered names) in
    record {
      entered = s.entered ++ next ∷ [];
      whole = s.whole ∙ ap (λ (xs : List ℕ). s.entered ++ xs) future-is ∙ sym (append_assoc s.entered (next ∷ []) (future m next rest));
      rest = more ∙ ap (λ (n : ℕ). rest_after n text) (sym long);
      in_range = bound;
      none_held =
          s.none_held
          ∙ ap (λ (xs : List ℕ). first_condition (entries m s.entered) (entries m xs)) future-is
          ∙ first_condition-none (entries m s.entered) (entries m (future m next rest)) (state_at m next) no-condition
          ∙ ap (λ (xs : List (Acceptance × Option ℕ)). first_condition xs (entries m (future m next rest))) (sym pushed);
      size = omega (arith, s.size, length-keep place (state_at m next) kept);
      remembered = rw pushed (remembered-step text place (entries m s.entered) (state_at m next) kept last s.remembered here names);
    }

-- no step more: the pick is the last acceptance
pub scanned-stop : (m : Machine) (text : Text) (state : ℕ) (left : Text) (kept : List (Option ℕ)) (last : Option Boundary)
    (symbol : ℕ) (rest : Text)
    → Scanned m text state left kept last → BeginsBy m state left symbol rest → step m state symbol ≡ None
    → last ≡ option_map (boundary_in text) (pick m (symbols_of m (code_points text.items)))
scanned-stop m text state left kept last symbol rest s begins stops =
    let none = begins-none m state left symbol rest begins stops in
    let all : scan m (symbols_of m (code_points text.items)) ≡ s.entered = s.whole ∙ ap (λ (xs : List ℕ). s.entered ++ xs) none ∙ append-nil s.entered in
    let no-condition : first_condition [] (entries m (scan m (symbols_of m (code_points text.items)))) ≡ None =
    s.none_held ∙ ap (λ (xs : List ℕ). first_condition (entries m s.entered) (entries m xs)) none ∙ first_condition-nil (entries m s.entered) in
    s.remembered.accepted_last
    ∙ sym (pick-placed m text (last_step acceptance_status (entries m s.entered))
    (ap (λ (f : Option Boundary). option_or f (last_step acceptance_status (entries m (scan m (symbols_of m (code_points text.items)))))) no-condition
    ∙ ap (λ (xs : List ℕ). last_step acceptance_status (entries m xs)) all))

-- a condition holds: it is the first, and the pick
pub scanned-held : (m : Machine) (text : Text) (state : ℕ) (left : Text) (kept : List (Option ℕ)) (last : Option Boundary)
    (symbol : ℕ) (rest : Text) (next : ℕ) (found : Boundary)
    → IsChecked m → Scanned m text state left kept last → BeginsBy m state left symbol rest → step m state symbol ≡ Some next
    → Some found ≡ condition_end kept (state_at m next)
    → Some found ≡ option_map (boundary_in text) (pick m (symbols_of m (code_points text.items)))
scanned-held m text state left kept last symbol rest next found checked s begins leads is =
    let future-is = begins-some m state left symbol rest next begins leads in
    let names = within m next kept checked s.size in
    let picked = some-placed text found _ (is ∙ held-condition text (entries m s.entered) (state_at m next) kept last s.remembered names) in
    let first : first_condition [] (entries m (scan m (symbols_of m (code_points text.items)))) ≡ Some picked.0 =
    s.none_held ∙ ap (λ (xs : List ℕ). first_condition (entries m s.entered) (entries m xs)) future-is
    ∙ first_condition-some (entries m s.entered) (entries m (future m next rest)) (state_at m next) picked.0 picked.1 in
    ap Some picked.2
    ∙ sym (pick-placed m text (Some picked.0) (ap (λ (f : Option Boundary). option_or f (last_step acceptance_status (entries m (scan m (symbols_of m (code_points text.items)))))) first))

-- what is left after an item, and after none
pub one-less : (old new : Text) (item : Item) → old.items ≡ item ∷ new.items → new.end ≡ old.end → new ≡ rest_after 1 old
one-less old new item is end = rw (is, ← end) refl

pub none-less : (old new : Text) → old.items ≡ [] → new.items ≡ [] → new.end ≡ old.end → new ≡ rest_after 1 old
none-less old new none left end = rw (none, ← end) (ap (λ (items : List Item). record new { items = items }) left)

-- a text that isn't empty has a pick
pub pick-some : (m : Machine) → IsChecked m → (items : List Item) → items ≢ [] → IsSome (pick m (symbols_of m (code_points items)))
pick-some m checked [] some = absurd (some refl)
pick-some m checked (item ∷ items) some = checked.stall_free _ (nonempty _ _) (symbols_of-text m checked (code_points (item ∷ items)))
  where
    nonempty : (symbol : ℕ) (symbols : List ℕ) → symbol ∷ symbols ≢ []
    nonempty symbol symbols e = cc

-- a boundary that was found is that of the pick
pub found-pick : (text : Text) (picked : Option Boundary) (found : Boundary) → Some found ≡ option_map (boundary_in text) picked
    → (p : Boundary) × (picked ≡ Some p) × (found ≡ boundary_in text p)
found-pick text picked found is = some-placed text found picked is

pub none-picked : (text : Text) (picked : Option Boundary) → None ≡ option_map (boundary_in text) picked → IsSome picked → ⊥
none-picked text None is some = cc
none-picked text (Some p) is some = cc
