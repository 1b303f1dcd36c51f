-- The outcome of a scan that keeps a lookahead, and its end.
use Rattle.std.proofs.Common.{◌≡◌, ℕ, suc, ◌≤◌, Bool, Option, Some, None, List, ◌∷◌, ◌++◌, length, refl, sym, ap, ◌∙◌, subst, arith, inl, inr, eq-eqb}
use Rattle.std.proofs.lemmas.Bool.{cases_eq, cases_lt, ne_eqb}
use Rattle.seg_memo.specs.Configurations.{Boundary, Acceptance, Configuration, Outcome, Kept, Nothing, Picked, Subject, entered, floor, later, outcome_at, picked, start_at}
use Rattle.seg_text.specs.Boundaries.{boundary}
use Rattle.seg_machine.specs.Machine.{Machine, state_at}
use Rattle.seg_memo.specs.Grids.{Cell, KnownNothing, Unknown, Way, Table, HasCell, IsConfigurationOf, IsFit, IsLeft, IsNamed, IsOn, IsReadBy, IsScanned, IsSet, IsWalked, Source, Went, cell, came_from, holding, known}
use Rattle.seg_memo.proofs.Following.{entered-cases, look-ups-on, picked-past, same-picked}
use Rattle.seg_memo.proofs.Lists.{on-append}
use Rattle.seg_memo.proofs.Plain.{never-kept}
use Rattle.seg_memo.proofs.Reading.{entered-read}
use Rattle.seg_memo.proofs.Scanning.{start-within}
use Rattle.seg_memo.proofs.Picking.{memo-more}
use Rattle.seg_memo.proofs.Tells.{fit-later, keeps-fill, keeps-left}
use Rattle.seg_memo.proofs.Ways.{back-next, first-cell, first-on, first-tells}

-- cells are let go before the last acceptance

pub from-cell : (s : Subject) (t : Table) (last : Option Boundary) (first : Configuration) (from : ℕ) → IsFit s t (floor first.place last) → from ≡ floor first.place last → floor first.place last ≤ first.place → IsConfigurationOf s first
    → HasCell t (start_at from)
from-cell s t last first from fit is low within = fit.has (start_at from) (start-within s from fit.sound (omega (arith, is, low, within.place))) (omega (arith, is))

module _ {s : Subject} {t : Table} {counted start : ℕ} {last : Option Boundary} {first : Configuration} (w : IsNamed s t counted start last first) where
  pub named-left : {u : Table} {from : ℕ} → from ≡ floor first.place last → IsLeft t u from → IsNamed s u counted start last first × (cell u first ≡ cell t first)
  named-left {u = u} is left =
      let low = w.comes.low in
      (record { comes = w.comes; keeps = keeps-left w.keeps (subst (IsLeft t u) is left) }, (left.at first (omega (arith, is, low)) (first-cell w)).1)

  pub named-unknown : known (cell t first) ≡ None → cell t first ≡ Unknown
  named-unknown none =
      elim (first-tells w) [
        | inl new ↦ new.0
        | inr old ↦ let never : None ≡ Some (outcome_at s first) = sym none ∙ old.0 in cc
      ]

-- a step back, as the code reads it

states-same : (s : Subject) (m : Machine) (state : ℕ) → s.machine.states ≡ m.states → state_at m state ≡ state_at s.machine state
unfolding state_at
states-same s m state same = rw same refl

pub back-turn : {s : Subject} {t u : Table} {counted start : ℕ} {last : Option Boundary} {first here back : Configuration} {o result : Outcome} {held : Option Cell} {x was : Cell} {state kept : ℕ} {stays : Bool}
    {entry : Acceptance × Option ℕ} (m : Machine) → Went s t counted start last first here o → held ≡ holding o → held ≡ Some x → was ≡ cell t here → was ≡ Way state kept stays → IsSet t u 0 here x
    → s.machine.states ≡ m.states → entry ≡ state_at m here.state → result ≡ entered here.place entry o → back ≡ came_from here state kept stays → Went s u counted start last first back result
back-turn {s = s} {here = here} {o = o} {result = result} m w holds some read way set same e is from =
    let gives : entered here.place (state_at s.machine here.state) o ≡ result = ap (λ (y : Acceptance × Option ℕ). entered here.place y o) (sym (e ∙ states-same s m here.state same)) ∙ sym is in
    rw (from, ← gives) (back-next w (sym holds ∙ some) (sym read ∙ way) set)

-- the pick

entered-past : (s : Subject) (first : Configuration) (entry : Acceptance × Option ℕ) (o : Outcome) (found : Boundary) → o ≡ outcome_at s first → IsConfigurationOf s first → entered first.place entry o ≡ Picked found
    → first.place ≤ found.offset
entered-past s first entry o found is within picks =
    elim (entered-cases first.place entry o found picks) [
      | inl here ↦ omega (arith, here)
      | inr later ↦
          elim (cases_lt found.offset (length s.symbols)) [
            | inl less ↦ let past = picked-past s first found less (sym is ∙ later) in omega (arith, past)
            | inr past ↦ omega (arith, past, within.place)
          ]
    ]

later-picked : (last : Option Boundary) (found : Boundary) → later last (Picked found) ≡ Picked found
later-picked None found = refl
later-picked (Some b) found = refl

picked-some : (o : Outcome) (b : Boundary) → picked o ≡ Some b → o ≡ Picked b
picked-some Nothing b is = cc
picked-some (Picked found) b is = let same : found ≡ b = cc in ap Picked same
picked-some (Kept lookahead status) b is = cc

same-entered : (place : ℕ) (entry : Acceptance × Option ℕ) (f found : Boundary) → entered place entry (Picked f) ≡ Picked found → f ≡ found
same-entered place (acceptance, name) f found is = same-picked f found is

entered-none : (place : ℕ) (entry : Acceptance × Option ℕ) (o : Outcome) → entered place entry o ≡ Nothing → o ≡ Nothing
entered-none place (acceptance, name) Nothing is = refl
entered-none place (acceptance, name) (Picked f) is = cc
entered-none place (acceptance, None) (Kept lookahead status) is = cc
entered-none place (acceptance, Some name) (Kept lookahead status) is =
    elim (cases_eq name lookahead) [
      | inl same ↦ let never : Picked (boundary place status) ≡ Nothing = rw (eq-eqb name lookahead same) at is in cc
      | inr other ↦ let never : Kept lookahead status ≡ Nothing = rw (ne_eqb name lookahead other) at is in cc
    ]

kept-later : (last : Option Boundary) (lookahead status : ℕ) → later last (Kept lookahead status) ≡ Kept lookahead status
kept-later None lookahead status = refl
kept-later (Some b) lookahead status = refl

module _ {s : Subject} {t : Table} {counted start : ℕ} {last : Option Boundary} {first : Configuration} {o : Outcome} (w : IsWalked s t counted start last first o) where
  pub walked-left : {u : Table} {from : ℕ} → from ≡ floor first.place last → IsLeft t u from → IsWalked s u counted start last first o
  walked-left {u = u} is left = record { comes = w.comes; path = w.path; ends = w.ends; keeps = keeps-left w.keeps (subst (IsLeft t u) is left); is = w.is }

  pub walked-cell : HasCell t first
  walked-cell = w.keeps.fit.has first w.comes.within w.comes.low

  start-is : (p : Outcome) → entered first.place (state_at s.machine first.state) o ≡ p → outcome_at s (start_at start) ≡ later last p
  start-is p is = w.comes.is ∙ ap (λ (x : Outcome). later last (entered first.place (state_at s.machine first.state) x)) (sym w.is) ∙ ap (later last) is

  off-end : (found : Boundary) → entered first.place (state_at s.machine first.state) o ≡ Picked found → first.place ≤ found.offset → (c : Configuration) → IsConfigurationOf s c → suc found.offset ≤ c.place
      → IsOn c (first ∷ (w.path ++ w.comes.passed)) → ⊥
  off-end found picks past c within from on =
      elim on [
        | inl is ↦ let at : c.place ≡ first.place = ap (λ (x : Configuration). x.place) is in omega (arith, at, past, from)
        | inr rest ↦
            elim (on-append c w.path w.comes.passed rest) [
              | inl way ↦
                  let e = w.ends c way in
                  let is : e.0 ≡ found = same-entered first.place (state_at s.machine first.state) e.0 found (ap (entered first.place (state_at s.machine first.state)) (sym e.1) ∙ picks) in
                  let less = picked-past s c found (omega (arith, from, within.place)) (e.2 ∙ ap Picked is) in
                  omega (arith, less, from)
              | inr before ↦ let low = (w.comes.before c before).place in omega (arith, low, past, from)
            ]
      ]

  pub walked-picked : (found : Boundary) → entered first.place (state_at s.machine first.state) o ≡ Picked found → (first.place ≤ found.offset) × IsScanned s t counted start found
  walked-picked found picks =
      let past = entered-past s first (state_at s.machine first.state) o found w.is w.comes.within picks in (
        past,
        memo-more s t counted start w.comes.starts found w.comes.are w.comes.some (start-is (Picked found) picks ∙ later-picked last found) (fit-later w.keeps.fit (omega (arith, w.comes.low, past)))
            (record { at = λ c within from off. w.keeps.cells.at c within (omega (arith, w.comes.low, past, from)) (λ on. off-end found picks past c within from on) }) w.keeps.count,
      )

  -- no pick but the last acceptance
  no-pick : (p : Outcome) → entered first.place (state_at s.machine first.state) o ≡ p → picked p ≡ None → p ≡ Nothing
  no-pick Nothing is n = refl
  no-pick (Picked f) is n = cc
  no-pick (Kept lookahead status) is n = absurd (never-kept s (start_at start) lookahead status refl (start-is (Kept lookahead status) is ∙ kept-later last lookahead status))

  walked-last : {u : Table} {b : Boundary} → last ≡ Some b → entered first.place (state_at s.machine first.state) o ≡ Nothing → IsSet t u 0 first KnownNothing → IsScanned s u counted start b
  walked-last {u = u} {b = b} is none set =
      let nothing = entered-none first.place (state_at s.machine first.state) o none in
      let k = keeps-fill w.keeps set w.comes.kept (first-on w.comes first (look-ups-on s first)) (ap Some (sym nothing ∙ w.is)) in
      let at : floor first.place last ≡ b.offset = ap (floor first.place) is in
      memo-more s u counted start w.comes.starts b w.comes.are w.comes.some (start-is Nothing none ∙ ap (λ (x : Option Boundary). later x Nothing) is) (subst (IsFit s u) at k.fit)
      (record {
        at = λ c within from off.
            elim (cases_eq c.kept 0) [
              | inl unkept ↦ k.plain b is (ap (entered first.place (state_at s.machine first.state)) (sym w.is) ∙ none) c within from unkept
              | inr kept ↦
                  k.cells.at c within (omega (arith, at, from))
                  (λ on.
                  elim (on-append c w.path w.comes.passed on) [
                    | inl way ↦ let e = w.ends c way in let never : Nothing ≡ Picked e.0 = sym nothing ∙ e.1 in cc
                    | inr before ↦ kept (w.comes.before c before).free
                  ])
            ];
      })
      k.count

-- of what the code has in hand
module _ {r : Source} {m : Machine} {states : ℕ} {transitions : List ℕ} {t : Table} {counted start : ℕ} {last : Option Boundary} {first : Configuration} {o result : Outcome} {entry : Acceptance × Option ℕ} {pick : Option Boundary}
    (w : IsWalked r.subject t counted start last first o) (read : IsReadBy r m states transitions) (e : entry ≡ state_at m first.state) (is : result ≡ entered first.place entry o) (picks : pick ≡ picked result) where
  pub picked-found : {found : Boundary} → pick ≡ Some found → (first.place ≤ found.offset) × IsScanned r.subject t counted start found
  picked-found {found = found} some = walked-picked w found (entered-read read first o result entry e is ∙ picked-some result found (sym picks ∙ some))

  none-picked : pick ≡ None → entered first.place (state_at r.subject.machine first.state) o ≡ Nothing
  none-picked none = let same = entered-read read first o result entry e is in same ∙ no-pick w result same (sym picks ∙ none)

  pub last-found : {u : Table} {b : Boundary} → pick ≡ None → last ≡ Some b → IsSet t u 0 first KnownNothing → IsScanned r.subject u counted start b
  last-found none some set = walked-last w some (none-picked none) set

  pub last-some : pick ≡ None → last ≡ None → ⊥
  last-some none nothing = w.comes.picks (start-is w Nothing (none-picked none) ∙ ap (λ (x : Option Boundary). later x Nothing) nothing)
