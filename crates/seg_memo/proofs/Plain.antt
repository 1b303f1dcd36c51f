-- Scans while no lookahead is named.
use Rattle.std.proofs.Common.{◌≡◌, ℕ, suc, ◌+◌, ◌<◌, ◌≤◌, ◌⊎◌, Option, Some, None, List, [], ◌∷◌, length, map, min, refl, sym, ap, ◌∙◌, subst, arith, inl, inr}
use Rattle.std.specs.Option.{option_map}
use Rattle.std.proofs.lemmas.Bool.{cases_lt, cond-false, false≢true}
use Rattle.seg_memo.specs.Configurations.{Boundary, Acceptance, Continue, Accept, Conditional, Configuration, Outcome, Nothing, Picked, Kept, Ends, Leads, Subject, condition_held, start_at, following, look_ups, all_look_ups, AreStarts, at, entered, later, outcome, outcome_at, look_up, picked}
use Rattle.seg_text.specs.Boundaries.{boundary, shift}
use Rattle.seg_machine.specs.Machine.{state_at}
use Rattle.seg_machine.specs.Search.{has}
use Rattle.seg_machine.proofs.Sets.{has-none}
use Rattle.seg_memo.specs.Grids.{Cell, Unknown, First, Way, KnownNothing, KnownKept, IsOn, IsSound, IsConfigurationOf, known}
use Rattle.seg_memo.proofs.Following.{ends, leads-within, look-ups-leads, looks, outcome-at, outcome-leads, picked-past}
use Rattle.seg_memo.proofs.Lists.{on-append}
use Rattle.seg_memo.proofs.Scanning.{all-cons, all-nil, along, start-within}
use Rattle.seg_memo.proofs.Picking.{IsKept, kept-outcome, picked-start}

-- no condition holds

pub free-held : (kept : ℕ) (entry : Acceptance × Option ℕ) → kept ≡ 0 → condition_held kept entry ≡ None
free-held kept (Continue, name) none = refl
free-held kept (Accept status, name) none = refl
free-held kept (Conditional lookahead status, name) none =
    cond-false {A = Option (ℕ × ℕ)} (has kept lookahead) (Some (lookahead, status)) None (ap (λ (k : ℕ). has k lookahead) none ∙ has-none lookahead)

-- so a scan ends with nothing
pub plain-ends : (s : Subject) (c : Configuration) (o : Outcome) → c.kept ≡ 0 → look_up s c ≡ Ends o → o ≡ Nothing
plain-ends s c o free =
    looks s c (λ found. found ≡ Ends o → o ≡ Nothing) (λ none is. cc) (λ next f some holds is. let never = sym holds ∙ free-held c.kept (state_at s.machine next) free in cc) (λ next some none is. cc)

-- and no outcome is kept
pub never-kept : (s : Subject) (c : Configuration) (lookahead status : ℕ) → c.kept ≡ 0 → outcome_at s c ≡ Kept lookahead status → ⊥
never-kept s c lookahead status free is =
    on (outcome c.kept (map (state_at s.machine) (following s c))) (kept-outcome c.kept (map (state_at s.machine) (following s c))) (sym (outcome-at s c) ∙ is)
  where
    on : (o : Outcome) → IsKept c.kept o → at (λ steps. min (c.place + steps) (length s.symbols)) o ≡ Kept lookahead status → ⊥
    on Nothing has_it is = cc
    on (Picked found) has_it is = cc
    on (Kept name later) has_it is = false≢true (sym (has-none name) ∙ ap (λ (k : ℕ). has k name) (sym free) ∙ has_it)

-- a cell that holds its outcome holds that nothing comes
pub known-nothing : (s : Subject) (c : Configuration) (x : Cell) → c.kept ≡ 0 → known x ≡ Some (outcome_at s c) → outcome_at s c ≡ Nothing
known-nothing s c KnownNothing plain is = cc
known-nothing s c (KnownKept lookahead status) plain is = let kept : outcome_at s c ≡ Kept lookahead status = cc in absurd (never-kept s c lookahead status plain kept)
known-nothing s c Unknown plain is = cc
known-nothing s c First plain is = cc
known-nothing s c (Way state kept stays) plain is = cc

-- a state that accepts

abbrev pub Accepts : Subject → Configuration → Type 0
Accepts s c = (status : ℕ) × (name : Option ℕ) × (state_at s.machine c.state ≡ (Accept status, name))

accepted : (s : Subject) (c : Configuration) (place status : ℕ) (name : Option ℕ) → c.kept ≡ 0 → entered place (Accept status, name) (outcome_at s c) ≡ later (Some (boundary place status)) (outcome_at s c)
accepted s c place status name plain = on (outcome_at s c) (λ lookahead kept. never-kept s c lookahead kept plain)
  where
    on : (o : Outcome) → ((lookahead kept : ℕ) → o ≡ Kept lookahead kept → ⊥) → entered place (Accept status, name) o ≡ later (Some (boundary place status)) o
    on Nothing not = refl
    on (Picked found) not = refl
    on (Kept lookahead kept) not = absurd (not lookahead kept refl)

pub outcome-accepts : (s : Subject) (c e : Configuration) (status : ℕ) (name : Option ℕ) → IsSound s → e.kept ≡ 0 → IsConfigurationOf s c → look_up s c ≡ Leads e → state_at s.machine e.state ≡ (Accept status, name)
    → outcome_at s c ≡ later (Some (boundary e.place status)) (outcome_at s e)
outcome-accepts s c e status name sound free within is accepts =
    outcome-leads s c e sound within is ∙ ap (λ (x : Acceptance × Option ℕ). entered e.place x (outcome_at s e)) accepts ∙ accepted s e e.place status name free

passed : (place : ℕ) (entry : Acceptance × Option ℕ) (o : Outcome) → ((status : ℕ) → entry.0 ≡ Accept status → ⊥) → ((lookahead kept : ℕ) → o ≡ Kept lookahead kept → ⊥) → entered place entry o ≡ o
passed place (Continue, name) Nothing not free = refl
passed place (Conditional lookahead status, name) Nothing not free = refl
passed place (Accept status, name) Nothing not free = absurd (not status refl)
passed place (acceptance, name) (Picked found) not free = refl
passed place (acceptance, name) (Kept lookahead kept) not free = absurd (free lookahead kept refl)

-- another state passes it on
pub outcome-passes : (s : Subject) (c e : Configuration) → IsSound s → e.kept ≡ 0 → IsConfigurationOf s c → look_up s c ≡ Leads e → ((status : ℕ) → (state_at s.machine e.state).0 ≡ Accept status → ⊥)
    → outcome_at s c ≡ outcome_at s e
outcome-passes s c e sound free within is not =
    outcome-leads s c e sound within is ∙ passed e.place (state_at s.machine e.state) (outcome_at s e) not (λ lookahead kept. never-kept s e lookahead kept free)

-- no scan reaches past its end what has the pick there or later

abbrev Later : Subject → Configuration → ℕ → Type 0
Later s c place = (f : Boundary) × (outcome_at s c ≡ Picked f) × (place ≤ f.offset)

later-picked : (s : Subject) (c e : Configuration) (b : Boundary) → e.kept ≡ 0 → e.place ≤ length s.symbols → outcome_at s c ≡ later (Some b) (outcome_at s e) → b.offset ≡ e.place → Later s c e.place
later-picked s c e b plain inside is here = on (outcome_at s e) refl is
  where
    on : (o : Outcome) → outcome_at s e ≡ o → outcome_at s c ≡ later (Some b) o → Later s c e.place
    on Nothing same is = (b, is, omega (arith, here))
    on (Picked found) same is =
        (found, is, elim (cases_lt found.offset (length s.symbols)) [ inl less ↦ let past = picked-past s e found less same in omega (arith, past) | inr end ↦ omega (arith, end, inside) ])
    on (Kept lookahead kept) same is = absurd (never-kept s e lookahead kept plain same)

entered-picked : (place : ℕ) (entry : Acceptance × Option ℕ) (o : Outcome) (f : Boundary) → o ≡ Picked f → entered place entry o ≡ Picked f
entered-picked place (acceptance, name) (Picked found) f is = is
entered-picked place entry Nothing f is = cc
entered-picked place entry (Kept lookahead status) f is = cc

later-leads : (s : Subject) (c d : Configuration) (place : ℕ) → IsSound s → IsConfigurationOf s c → look_up s c ≡ Leads d → Later s d place → Later s c place
later-leads s c d place sound within is after = (after.0, outcome-leads s c d sound within is ∙ entered-picked d.place (state_at s.machine d.state) (outcome_at s d) after.0 after.1, after.2)

-- each scan that comes to it has its pick there or later
abbrev Ahead : Subject → Configuration → ℕ → Type 0
Ahead s d place = (c : Configuration) → IsConfigurationOf s c → look_up s c ≡ Leads d → Later s c place

scan-later : (s : Subject) (c d : Configuration) (place : ℕ) → IsSound s → Ahead s d place → IsConfigurationOf s c → IsOn d (look_ups s c) → (d ≡ c) ⊎ Later s c place
scan-later s c d place sound ahead within on =
    along s (λ c. IsOn d (look_ups s c) → (d ≡ c) ⊎ Later s c place) sound
    (λ c o inside is on. elim (subst (IsOn d) (ends s c o sound inside is).alone on) [ inl same ↦ inl same | inr none ↦ absurd none ])
    (λ c e inside is rest on. further c e inside is rest (subst (IsOn d) (look-ups-leads s c e sound inside is) on))
    (following s c) c refl within on
  where
    further : (c e : Configuration) → IsConfigurationOf s c → look_up s c ≡ Leads e → (IsOn d (look_ups s e) → (d ≡ e) ⊎ Later s e place) → IsOn d (c ∷ look_ups s e) → (d ≡ c) ⊎ Later s c place
    further c e inside is rest on =
        elim on [
          | inl same ↦ inl same
          | inr more ↦
              elim (rest more) [
                | inl same ↦ inr (ahead c inside (is ∙ ap Leads (sym same)))
                | inr after ↦ inr (later-leads s c e place sound inside is after)
              ]
        ]

shifted : (start : ℕ) (f p : Boundary) → Some f ≡ option_map (shift start) (Some p) → f.offset ≡ start + p.offset
shifted start f p is = let same : f ≡ shift start p = cc in ap (λ (b : Boundary). b.offset) same

all-later : (s : Subject) (starts : List ℕ) (end : ℕ) (d : Configuration) (place : ℕ) → IsSound s → Ahead s d place → place ≤ suc d.place → AreStarts s starts end → end ≤ length s.symbols
    → IsOn d (all_look_ups s starts) → place ≤ end
all-later s [] end d place sound ahead most are within on = absurd (subst (IsOn d) (all-nil s) on)
all-later s (start ∷ starts) end d place sound ahead most are within on =
    let less : start ≤ length s.symbols = omega (arith, within, are.1) in
    elim (on-append d (look_ups s (start_at start)) (all_look_ups s starts) (subst (IsOn d) (all-cons s start starts) on)) [
      | inl first ↦
          elim (scan-later s (start_at start) d place sound ahead (start-within s start sound less) first) [
            | inl same ↦ let here : d.place ≡ start = ap (λ (c : Configuration). c.place) same in omega (arith, here, are.1, most)
            | inr after ↦
                let offset = shifted start after.0 are.0.0 (sym (ap picked after.1) ∙ picked-start s start less ∙ ap (option_map (shift start)) are.0.1) in
                omega (arith, offset, after.2, are.0.2)
          ]
      | inr rest ↦ let before = all-later s starts start d place sound ahead most are.2 less rest in omega (arith, before, are.1)
    ]

-- as a state that accepts
pub all-accept : (s : Subject) (starts : List ℕ) (end : ℕ) (d : Configuration) → IsSound s → d.kept ≡ 0 → AreStarts s starts end → end ≤ length s.symbols → Accepts s d → IsOn d (all_look_ups s starts) → d.place ≤ end
all-accept s starts end d sound free are within accepts on =
    all-later s starts end d d.place sound
    (λ c inside is. later-picked s c d (boundary d.place accepts.0) free (leads-within s c d sound inside is).place (outcome-accepts s c d accepts.0 accepts.1 sound free inside is accepts.2) refl)
    (omega arith) are within on

-- and what has a pick
pub all-picked : (s : Subject) (starts : List ℕ) (end : ℕ) (d : Configuration) (f : Boundary) → IsSound s → d.place < length s.symbols → outcome_at s d ≡ Picked f → AreStarts s starts end → end ≤ length s.symbols
    → IsOn d (all_look_ups s starts) → d.place < end
all-picked s starts end d f sound some is are within on =
    let past : d.place < f.offset = elim (cases_lt f.offset (length s.symbols)) [ inl less ↦ picked-past s d f less is | inr past ↦ omega (arith, past, some) ] in
    all-later s starts end d (suc d.place) sound (λ c inside leads. later-leads s c d (suc d.place) sound inside leads (f, is, past)) (omega arith) are within on
