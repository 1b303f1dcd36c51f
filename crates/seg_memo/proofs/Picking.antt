-- The pick is that of the outcome, and a segment ends there.
use Rattle.std.proofs.Common.{◌≡◌, ℕ, suc, ◌+◌, ◌-◌, ◌≤◌, ◌==◌, ◌||◌, Bool, true, false, Option, Some, None, List, [], ◌∷◌, ◌++◌, length, drop, map, min, refl, sym, ap, ◌∙◌, arith, inl, inr, length-append, ◌≢◌, ◌<◌, IsSome, subst}
use Rattle.std.specs.Prelude.{is_some}
use Rattle.std.specs.Option.{option_map, option_map_or, option_or}
use Rattle.std.proofs.lemmas.Bool.{cases_eq, cases_Bool, cond-true, cond-false, ne_eqb, eq-eqb}
use Rattle.std.proofs.lemmas.List.{length-drop}
use Rattle.seg_memo.specs.Configurations.{Boundary, Acceptance, Continue, Accept, Conditional, Outcome, Nothing, Picked, Kept, Subject, condition_held, following, start_at, entered, at, outcome, outcome_at, picked, AreStarts, different, reading, all_look_ups}
use Rattle.seg_text.specs.Boundaries.{boundary, shift}
use Rattle.seg_machine.specs.Machine.{Machine, scan, state_at, symbol_and_script, symbols_of}
use Rattle.seg_machine.specs.Pick.{later, last_step, acceptance_status, naming, condition, first_condition, picked_step, pick}
use Rattle.seg_machine.specs.Search.{has, keep}
use Rattle.seg_machine.proofs.Settled.{Agrees, agrees-more, last-none}
use Rattle.seg_machine.proofs.Sets.{has-none, has-keep}
use Rattle.seg_machine.proofs.Steps.{at_step, last_step-push}
use Rattle.seg_text.specs.Items.{code_points}
use Rattle.seg_machine.proofs.Picks.{pick-bounds}
use Rattle.seg_machine.proofs.Scanned.{pick-some}
use Rattle.seg_memo.specs.Grids.{Table, IsFit, IsReadBy, IsScanned, IsSound, Source, TellFrom}
use Rattle.seg_memo.proofs.Reading.{symbols-drop, symbols-length}

-- a lookahead that an outcome names is in the set
abbrev pub IsKept : ℕ → Outcome → Type 0
IsKept kept (Kept lookahead status) = has kept lookahead ≡ true
IsKept kept _ = Unit {0}

kept-held : (kept : ℕ) (state : Acceptance × Option ℕ) (f : ℕ × ℕ) → condition_held kept state ≡ Some f → has kept f.0 ≡ true
kept-held kept (Continue, name) f is = cc
kept-held kept (Accept status, name) f is = cc
kept-held kept (Conditional lookahead status, name) f is =
    elim (cases_Bool (has kept lookahead)) [
      | inl holds ↦
          let some : Some (lookahead, status) ≡ Some f = sym (cond-true (has kept lookahead) (Some (lookahead, status)) None holds) ∙ is in
          let same : (lookahead, status) ≡ f = cc in
          ap (λ (g : ℕ × ℕ). has kept g.0) (sym same) ∙ holds
      | inr fails ↦
          let none : None ≡ Some f = sym (cond-false (has kept lookahead) (Some (lookahead, status)) None fails) ∙ is in
          cc
    ]

without-right : (a b : Bool) → b ≡ false → (a || b) ≡ true → a ≡ true
without-right true b is or = refl
without-right false b is or = sym is ∙ or

kept-unnamed : (kept lookahead place : ℕ) (status name : ℕ) (acceptance : Acceptance) → has (keep kept (Some name)) lookahead ≡ true
    → IsKept kept (entered place (acceptance, Some name) (Kept lookahead status))
kept-unnamed kept lookahead place status name acceptance is =
    elim (cases_eq name lookahead) [
      | inl same ↦ rw (eq-eqb name lookahead same) tt
      | inr other ↦ rw (ne_eqb name lookahead other) (without-right (has kept lookahead) (name == lookahead) (ne_eqb name lookahead other) (sym (has-keep kept name lookahead) ∙ is))
    ]

kept-entered : (kept place : ℕ) (state : Acceptance × Option ℕ) (o : Outcome) → IsKept (keep kept state.1) o → IsKept kept (entered place state (at suc o))
kept-entered kept place (Accept status, name) Nothing is = tt
kept-entered kept place (Continue, name) Nothing is = tt
kept-entered kept place (Conditional lookahead status, name) Nothing is = tt
kept-entered kept place (acceptance, name) (Picked found) is = tt
kept-entered kept place (acceptance, None) (Kept lookahead status) is = is
kept-entered kept place (acceptance, Some name) (Kept lookahead status) is = kept-unnamed kept lookahead place status name acceptance is

pub kept-outcome : (kept : ℕ) (states : List (Acceptance × Option ℕ)) → IsKept kept (outcome kept states)
unfolding outcome
kept-outcome kept [] = tt
kept-outcome kept (state ∷ states) =
    on (condition_held kept state) refl (kept-entered kept 1 state (outcome (keep kept state.1) states) (kept-outcome (keep kept state.1) states))
  where
    on : (f : Option (ℕ × ℕ)) → condition_held kept state ≡ f → IsKept kept (entered 1 state (at suc (outcome (keep kept state.1) states)))
        → IsKept kept (option_map_or {T = ℕ × ℕ} {U = Outcome} (λ f. Kept f.0 f.1) f (entered 1 state (at suc (outcome (keep kept state.1) states))))
    on None is rest = rest
    on (Some f) is rest = kept-held kept state f is

-- what an outcome picks after some states
abbrev found : List (Acceptance × Option ℕ) → Outcome → Option Boundary
found earlier Nothing = None
found earlier (Picked f) = Some (shift (length earlier) f)
found earlier (Kept lookahead status) = option_map (λ (f : Boundary). boundary f.offset status) (last_step (naming lookahead) earlier)

abbrev later_by : ℕ → Option Boundary → Option Boundary
later_by n found = option_map (shift n) found

later-step : (n : ℕ) (last : Option Boundary) (value : Option ℕ) → later_by n (option_or (later last) (at_step 1 value)) ≡ option_or (later_by (suc n) last) (at_step (suc n) value)
later-step n None None = refl
later-step n None (Some v) = ap (λ (k : ℕ). Some (boundary k v)) (omega arith)
later-step n (Some f) value = ap (λ (k : ℕ). Some (boundary k f.status)) (omega arith)

either-assoc : (f g h : Option Boundary) → option_or (option_or f g) h ≡ option_or f (option_or g h)
either-assoc None g h = refl
either-assoc (Some f) g h = refl

-- some names, in front
either-named : (n status : ℕ) (name : Option ℕ) (earlier : Option Boundary) (other : Option Boundary) → is_some (option_or (at_step n name) earlier) ≡ true
    → option_or (option_map (λ (f : Boundary). boundary f.offset status) (option_or (at_step n name) earlier)) other
    ≡ option_map (λ (f : Boundary). boundary f.offset status) (option_or (at_step n name) earlier)
either-named n status None None other is = cc
either-named n status None (Some f) other is = refl
either-named n status (Some v) earlier other is = refl

longer : (earlier : List (Acceptance × Option ℕ)) (state : Acceptance × Option ℕ) (steps : ℕ) → length (earlier ++ state ∷ []) + steps ≡ length earlier + suc steps
longer earlier state steps = let long : length (earlier ++ state ∷ []) ≡ length earlier + 1 = length-append earlier (state ∷ []) in omega arith

found-kept : (earlier : List (Acceptance × Option ℕ)) (acceptance : Acceptance) (name : Option ℕ) (lookahead status : ℕ)
    → is_some (last_step (naming lookahead) (earlier ++ (acceptance, name) ∷ [])) ≡ true
    → option_or (option_map (λ (f : Boundary). boundary f.offset status) (last_step (naming lookahead) (earlier ++ (acceptance, name) ∷ []))) (at_step (suc (length earlier)) (acceptance_status (acceptance, name)))
    ≡ found earlier (entered 1 (acceptance, name) (Kept lookahead status))
found-kept earlier acceptance None lookahead status is =
    let push = last_step-push (naming lookahead) earlier (acceptance, None) in
    rw push (either-named (suc (length earlier)) status None (last_step (naming lookahead) earlier) (at_step (suc (length earlier)) (acceptance_status (acceptance, None))) (rw push at is))
found-kept earlier acceptance (Some name) lookahead status is =
    let push = last_step-push (naming lookahead) earlier (acceptance, Some name) in
    elim (cases_eq name lookahead) [
      | inl same ↦
          rw (push, eq-eqb name lookahead same) (ap (λ (k : ℕ). Some (boundary k status)) (omega arith))
      | inr other ↦
          rw push (either-named (suc (length earlier)) status (naming lookahead (acceptance, Some name)) (last_step (naming lookahead) earlier) (at_step (suc (length earlier)) (acceptance_status (acceptance, Some name))) (rw push at is)
          ∙ rw (ne_eqb name lookahead other) refl)
    ]

found-entered : (earlier : List (Acceptance × Option ℕ)) (kept : ℕ) (state : Acceptance × Option ℕ) (o : Outcome)
    → Agrees kept (earlier ++ state ∷ []) → IsKept kept o
    → option_or (found (earlier ++ state ∷ []) o) (at_step (suc (length earlier)) (acceptance_status state)) ≡ found earlier (entered 1 state (at suc o))
found-entered earlier kept (Accept status, name) Nothing agrees is = ap (λ (k : ℕ). Some (boundary k status)) (omega arith)
found-entered earlier kept (Continue, name) Nothing agrees is = refl
found-entered earlier kept (Conditional lookahead status, name) Nothing agrees is = refl
found-entered earlier kept (acceptance, name) (Picked f) agrees is = ap (λ (k : ℕ). Some (boundary k f.status)) (longer earlier (acceptance, name) f.offset)
found-entered earlier kept (acceptance, name) (Kept lookahead status) agrees is = found-kept earlier acceptance name lookahead status (sym (agrees lookahead) ∙ is)

-- a condition that holds, by the set
condition-is-held : (kept : ℕ) (earlier : List (Acceptance × Option ℕ)) (state : Acceptance × Option ℕ) → Agrees kept earlier
    → condition earlier state ≡ option_map_or {T = ℕ × ℕ} {U = Option Boundary} (λ f. found earlier (Kept f.0 f.1)) (condition_held kept state) None
condition-is-held kept earlier (Continue, name) agrees = refl
condition-is-held kept earlier (Accept status, name) agrees = refl
condition-is-held kept earlier (Conditional lookahead status, name) agrees =
    on (last_step (naming lookahead) earlier) refl
  where
    on : (f : Option Boundary) → last_step (naming lookahead) earlier ≡ f
        → option_map (λ (f : Boundary). boundary f.offset status) (last_step (naming lookahead) earlier)
        ≡ option_map_or {T = ℕ × ℕ} {U = Option Boundary} (λ f. found earlier (Kept f.0 f.1)) (condition_held kept (Conditional lookahead status, name)) None
    on None is = rw (cond-false {A = Option (ℕ × ℕ)} (has kept lookahead) (Some (lookahead, status)) None (agrees lookahead ∙ ap is_some is)) (rw is refl)
    on (Some f) is = rw (cond-true {A = Option (ℕ × ℕ)} (has kept lookahead) (Some (lookahead, status)) None (agrees lookahead ∙ ap is_some is)) refl

either-some : (f g : Option Boundary) → is_some f ≡ true → option_or f g ≡ f
either-some None g is = cc
either-some (Some f) g is = refl

some-found : (earlier : List (Acceptance × Option ℕ)) (lookahead status : ℕ) → is_some (last_step (naming lookahead) earlier) ≡ true → is_some (found earlier (Kept lookahead status)) ≡ true
some-found earlier lookahead status is = on (last_step (naming lookahead) earlier) is
  where
    on : (f : Option Boundary) → is_some f ≡ true → is_some {T = Boundary} (option_map (λ (f : Boundary). boundary f.offset status) f) ≡ true
    on None is = cc
    on (Some f) is = refl

found-picked : (kept : ℕ) (earlier states : List (Acceptance × Option ℕ)) → Agrees kept earlier
    → option_or (first_condition earlier states) (later_by (length earlier) (last_step acceptance_status states)) ≡ found earlier (outcome kept states)
unfolding outcome first_condition last_step
found-picked kept earlier [] agrees = refl
found-picked kept earlier (state ∷ states) agrees =
    let long : suc (length earlier) ≡ length (earlier ++ state ∷ []) = omega (arith, length-append earlier (state ∷ [])) in
    let more = agrees-more kept earlier state agrees in
    let fc = first_condition (earlier ++ state ∷ []) states in
    let ls = last_step acceptance_status states in
    let o = outcome (keep kept state.1) states in
    let rest : option_or fc (later_by (length earlier) (option_or (later ls) (at_step 1 (acceptance_status state)))) ≡ found earlier (entered 1 state (at suc o)) =
    ap (option_or fc) (later-step (length earlier) ls (acceptance_status state))
    ∙ sym (either-assoc fc (later_by (suc (length earlier)) ls) (at_step (suc (length earlier)) (acceptance_status state)))
    ∙ ap (λ (n : ℕ). option_or (option_or fc (later_by n ls)) (at_step (suc (length earlier)) (acceptance_status state))) long
    ∙ ap (λ (f : Option Boundary). option_or f (at_step (suc (length earlier)) (acceptance_status state))) (found-picked (keep kept state.1) (earlier ++ state ∷ []) states more)
    ∙ found-entered earlier (keep kept state.1) state o more (kept-outcome (keep kept state.1) states) in
    rw (condition-is-held kept earlier state agrees) (on fc (option_or (later ls) (at_step 1 (acceptance_status state))) o (condition_held kept state) refl rest)
  where
    on : (fc all : Option Boundary) (o : Outcome) (f : Option (ℕ × ℕ)) → condition_held kept state ≡ f → option_or fc (later_by (length earlier) all) ≡ found earlier (entered 1 state (at suc o))
        → option_or (option_or (option_map_or {T = ℕ × ℕ} {U = Option Boundary} (λ f. found earlier (Kept f.0 f.1)) f None) fc) (later_by (length earlier) all)
        ≡ found earlier (option_map_or {T = ℕ × ℕ} {U = Outcome} (λ f. Kept f.0 f.1) f (entered 1 state (at suc o)))
    on fc all o None is rest = rest
    on fc all o (Some f) is rest =
        let some = some-found earlier f.0 f.1 (sym (agrees f.0) ∙ kept-held kept state f is) in
        either-assoc (found earlier (Kept f.0 f.1)) fc (later_by (length earlier) all)
        ∙ either-some (found earlier (Kept f.0 f.1)) (option_or fc (later_by (length earlier) all)) some

found-nothing : (o : Outcome) → found [] o ≡ picked o
unfolding last_step
found-nothing Nothing = refl
found-nothing (Picked f) = ap (λ (k : ℕ). Some (boundary k f.status)) (omega arith)
found-nothing (Kept lookahead status) = refl

later-none : (f : Option Boundary) → later_by 0 f ≡ f
later-none None = refl
later-none (Some f) = ap (λ (k : ℕ). Some (boundary k f.status)) (omega arith)

-- the pick of some states is that of their outcome, where no lookahead was named before
picked-outcome : (states : List (Acceptance × Option ℕ)) → picked_step states ≡ picked (outcome 0 states)
picked-outcome states =
    ap (option_or (first_condition [] states)) (sym (later-none (last_step acceptance_status states)))
    ∙ found-picked 0 [] states (λ lookahead. has-none lookahead ∙ sym (last-none (naming lookahead)))
    ∙ found-nothing (outcome 0 states)

picked-at : (move : ℕ → ℕ) (o : Outcome) → picked (at move o) ≡ option_map (λ (f : Boundary). boundary (move f.offset) f.status) (picked o)
picked-at move Nothing = refl
picked-at move (Picked f) = refl
picked-at move (Kept lookahead status) = refl

-- the pick of a text is that of its scan's outcome
pick-outcome : (m : Machine) (symbols : List ℕ) → pick m symbols ≡ picked (at (λ steps. min steps (length symbols)) (outcome 0 (map (state_at m) (scan m symbols))))
unfolding pick
pick-outcome m symbols =
    rw (picked-outcome (map (state_at m) (scan m symbols)))
    (sym (picked-at (λ steps. min steps (length symbols)) (outcome 0 (map (state_at m) (scan m symbols)))))

following-start : (s : Subject) (start : ℕ) → following s (start_at start) ≡ scan s.machine (drop start s.symbols)
unfolding following scan
following-start s start = refl

outcome-start : (s : Subject) (start : ℕ)
    → outcome_at s (start_at start) ≡ at (λ steps. min (start + steps) (length s.symbols)) (outcome 0 (map (state_at s.machine) (scan s.machine (drop start s.symbols))))
unfolding outcome_at
outcome-start s start = rw (following-start s start) refl

-- and the outcome where a scan begins is the pick of what is left there
pub picked-start : (s : Subject) (start : ℕ) → start ≤ length s.symbols → picked (outcome_at s (start_at start)) ≡ option_map (shift start) (pick s.machine (drop start s.symbols))
picked-start s start within =
    let o = outcome 0 (map (state_at s.machine) (scan s.machine (drop start s.symbols))) in
    ap picked (outcome-start s start)
    ∙ picked-at (λ steps. min (start + steps) (length s.symbols)) o
    ∙ on (length (drop start s.symbols)) (length-drop start s.symbols) (picked o)
    ∙ sym (ap (option_map (shift start)) (pick-outcome s.machine (drop start s.symbols) ∙ picked-at (λ steps. min steps (length (drop start s.symbols))) o))
  where
    on : (rest : ℕ) → rest ≡ length s.symbols - start → (f : Option Boundary)
        → option_map {T = Boundary} {U = Boundary} (λ f. boundary (min (start + f.offset) (length s.symbols)) f.status) f
        ≡ option_map (shift start) (option_map {T = Boundary} {U = Boundary} (λ f. boundary (min f.offset rest) f.status) f)
    on rest long None = refl
    on rest long (Some f) = ap (λ (k : ℕ). Some (boundary k f.status)) (omega (arith, long, within))

-- a reader's transitions change no symbol
same-symbols : (m : Machine) (transitions : List ℕ) (code_points : List ℕ) → symbols_of (reading m transitions) code_points ≡ symbols_of m code_points
unfolding symbol_and_script
same-symbols m transitions code_points = refl

pub symbols-read : (r : Source) (m : Machine) (states : ℕ) (transitions : List ℕ) (code_points : List ℕ) → IsReadBy r m states transitions
    → symbols_of r.subject.machine code_points ≡ symbols_of m code_points
symbols-read r m states transitions code_points read = ap (λ (x : Machine). symbols_of x code_points) read.machine ∙ same-symbols m transitions code_points

-- there is a pick
pub start-picks : (r : Source) (m : Machine) (states : ℕ) (transitions : List ℕ) (place : ℕ) → IsSound r.subject → place < length r.subject.symbols → IsReadBy r m states transitions
    → picked (outcome_at r.subject (start_at place)) ≡ None → ⊥
start-picks r m states transitions place sound some read none =
    let s = r.subject in
    let own : symbols_of s.machine (code_points (drop place r.whole.items)) ≡ drop place s.symbols =
    symbols-drop s.machine place r.whole.items ∙ ap (drop place) (symbols-read r m states transitions (code_points r.whole.items) read ∙ sym read.symbols) in
    let long : length s.symbols ≡ length r.whole.items = ap length read.symbols ∙ symbols-length m r.whole.items in
    let left : drop place r.whole.items ≢ [] = λ e. let size : length r.whole.items - place ≡ 0 = sym (length-drop place r.whole.items) ∙ ap length e in omega (arith, long, size, some) in
    on (pick s.machine (drop place s.symbols)) (subst (λ (xs : List ℕ). IsSome (pick s.machine xs)) own (pick-some s.machine sound.checked (drop place r.whole.items) left))
    (sym none ∙ picked-start s place (omega (arith, some)))
  where
    on : (f : Option Boundary) → IsSome f → None ≡ option_map (shift place) f → ⊥
    on None there e = cc
    on (Some p) there e = cc

found-segment : (s : Subject) (place : ℕ) (b : Boundary) → place ≤ length s.symbols → outcome_at s (start_at place) ≡ Picked b → (p : Boundary) × (pick s.machine (drop place s.symbols) ≡ Some p) × (b ≡ shift place p)
found-segment s place b within is = on (pick s.machine (drop place s.symbols)) refl (sym (ap picked is) ∙ picked-start s place within)
  where
    on : (f : Option Boundary) → pick s.machine (drop place s.symbols) ≡ f → Some b ≡ option_map (shift place) f → (p : Boundary) × (pick s.machine (drop place s.symbols) ≡ Some p) × (b ≡ shift place p)
    on None picks e = cc
    on (Some p) picks e = let same : b ≡ shift place p = cc in (p, picks, same)

-- the scans with this one more
pub memo-more : (s : Subject) (t : Table) (counted start : ℕ) (starts : List ℕ) (b : Boundary) → AreStarts s starts start → start < length s.symbols → outcome_at s (start_at start) ≡ Picked b
    → IsFit s t b.offset → TellFrom s t (suc b.offset) (all_look_ups s (start ∷ starts)) [] → counted ≡ different (all_look_ups s (start ∷ starts)) → IsScanned s t counted start b
memo-more s t counted start starts b are some is fit cells count =
    let segment = found-segment s start b (omega (arith, some)) is in
    let left = length-drop start s.symbols in
    let bounds = pick-bounds s.machine (drop start s.symbols) segment.0 segment.1 (λ none. let long : length (drop start s.symbols) ≡ 0 = ap length none in omega (arith, long, left, some)) in
    let offset : b.offset ≡ start + segment.0.offset = ap (λ (x : Boundary). x.offset) segment.2 in
    record {
      memo = record {
        starts = start ∷ starts;
        are = ((segment.0, segment.1, offset), omega (arith, bounds.0, offset), are);
        within = omega (arith, bounds.1, offset, left, some);
        fit = fit;
        cells = cells;
        count = count;
      };
      past = omega (arith, offset);
      segment = segment;
    }
