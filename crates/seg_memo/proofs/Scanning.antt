-- What scans look up: all of it is of the text, and of each look-up what comes after it. They begin at one list of places.
use Rattle.std.proofs.Common.{◌≡◌, ℕ, ◌≤◌, List, [], ◌∷◌, ◌++◌, length, refl, sym, ◌∙◌, subst, arith, inl, inr, zero, suc, ◌+◌, ◌<◌, Some, drop, ap}
use Rattle.std.proofs.lemmas.Nat.{pow_pos}
use Rattle.seg_memo.specs.Configurations.{Configuration, Outcome, LookUp, Ends, Leads, Subject, start_at, following, look_ups, all_look_ups, AreStarts, look_up, Boundary, AreLookedUp, different}
use Rattle.seg_memo.specs.Grids.{IsSound, IsConfigurationOf, IsOn, onto}
use Rattle.seg_memo.proofs.Following.{ends, look-ups-leads, states-lead, leads-within}
use Rattle.seg_memo.proofs.Lists.{AreWithin, Same, on-append, on-left, on-onto, on-right, onto-on}
use Rattle.std.proofs.lemmas.Bool.{cases_lt, cases_eq}
use Rattle.std.proofs.lemmas.Option.{same_Some}
use Rattle.seg_machine.specs.Pick.{pick}

-- induction over a scan
pub along : (s : Subject) (P : Configuration → Type 0) → IsSound s
    → ((c : Configuration) (o : Outcome) → IsConfigurationOf s c → look_up s c ≡ Ends o → P c)
    → ((c d : Configuration) → IsConfigurationOf s c → look_up s c ≡ Leads d → P d → P c)
    → (states : List ℕ) (c : Configuration) → following s c ≡ states → IsConfigurationOf s c → P c
along s P sound last more [] c is within = on (look_up s c) refl
  where
    on : (found : LookUp) → look_up s c ≡ found → P c
    on (Ends o) ends = last c o within ends
    on (Leads d) leads = let never : d.state ∷ following s d ≡ [] = sym (states-lead s c d sound within leads) ∙ is in cc
along s P sound last more (state ∷ states) c is within = on (λ d. along s P sound last more states d) (look_up s c) refl
  where
    on : ((d : Configuration) → following s d ≡ states → IsConfigurationOf s d → P d) → (found : LookUp) → look_up s c ≡ found → P c
    on rest (Ends o) ends = last c o within ends
    on rest (Leads d) leads =
        let same : d.state ∷ following s d ≡ state ∷ states = sym (states-lead s c d sound within leads) ∙ is in
        let left : following s d ≡ states = cc in
        more c d within leads (rest d left (leads-within s c d sound within leads))

pub scan-within : (s : Subject) (c : Configuration) → IsSound s → IsConfigurationOf s c → AreWithin s (look_ups s c)
scan-within s c sound within =
    along s (λ c. AreWithin s (look_ups s c)) sound
    (λ c o inside is d on. alone c inside d (subst (IsOn d) (ends s c o sound inside is).alone on))
    (λ c d inside is rest e on. further c inside (look_ups s d) rest e (subst (IsOn e) (look-ups-leads s c d sound inside is) on))
    (following s c) c refl within
  where
    alone : (c : Configuration) → IsConfigurationOf s c → (d : Configuration) → IsOn d (c ∷ []) → IsConfigurationOf s d
    alone c inside d on = elim on [ inl is ↦ subst (IsConfigurationOf s) (sym is) inside | inr none ↦ absurd none ]

    further : (c : Configuration) → IsConfigurationOf s c → (cs : List Configuration) → AreWithin s cs → (e : Configuration) → IsOn e (c ∷ cs) → IsConfigurationOf s e
    further c inside cs rest e on = elim on [ inl is ↦ subst (IsConfigurationOf s) (sym is) inside | inr more ↦ rest e more ]

-- what is looked up from one of its look-ups on is some of it
abbrev pub AreOf : List Configuration → List Configuration → Type 0
AreOf cs ds = (c : Configuration) → IsOn c cs → IsOn c ds

pub scan-part : (s : Subject) (c d : Configuration) → IsSound s → IsConfigurationOf s c → IsOn d (look_ups s c) → AreOf (look_ups s d) (look_ups s c)
scan-part s c d sound within on =
    along s (λ c. (d : Configuration) → IsOn d (look_ups s c) → AreOf (look_ups s d) (look_ups s c)) sound
    (λ c o inside is d on. alone c d (subst (IsOn d) (ends s c o sound inside is).alone on))
    (λ c e inside is rest d on. further c e d (look-ups-leads s c e sound inside is) (rest d) (subst (IsOn d) (look-ups-leads s c e sound inside is) on))
    (following s c) c refl within d on
  where
    alone : (c d : Configuration) → IsOn d (c ∷ []) → AreOf (look_ups s d) (look_ups s c)
    alone c d on = elim on [ inl is ↦ subst (λ (x : Configuration). AreOf (look_ups s x) (look_ups s c)) (sym is) (λ e there. there) | inr none ↦ absurd none ]

    further : (c e d : Configuration) → look_ups s c ≡ c ∷ look_ups s e → (IsOn d (look_ups s e) → AreOf (look_ups s d) (look_ups s e)) → IsOn d (c ∷ look_ups s e)
        → AreOf (look_ups s d) (look_ups s c)
    further c e d all rest on =
        elim on [
          | inl is ↦ subst (λ (x : Configuration). AreOf (look_ups s x) (look_ups s c)) (sym is) (λ e there. there)
          | inr more ↦ subst (AreOf (look_ups s d)) (sym all) (λ x there. inr (rest more x there))
        ]

-- all scans

pub start-within : (s : Subject) (start : ℕ) → IsSound s → start ≤ length s.symbols → IsConfigurationOf s (start_at start)
start-within s start sound within = record { state = sound.checked.some_state; place = within; kept = pow_pos s.machine.num_lookaheads }

pub all-nil : (s : Subject) → all_look_ups s [] ≡ []
unfolding all_look_ups
all-nil s = refl

pub all-cons : (s : Subject) (start : ℕ) (starts : List ℕ) → all_look_ups s (start ∷ starts) ≡ look_ups s (start_at start) ++ all_look_ups s starts
unfolding all_look_ups
all-cons s start starts = refl

pub all-within : (s : Subject) (starts : List ℕ) (place : ℕ) → IsSound s → AreStarts s starts place → place ≤ length s.symbols → AreWithin s (all_look_ups s starts)
all-within s [] place sound are within d on = absurd (subst (IsOn d) (all-nil s) on)
all-within s (start ∷ starts) place sound are within d on =
    let less : start ≤ length s.symbols = omega (arith, within, are.1) in
    elim (on-append d (look_ups s (start_at start)) (all_look_ups s starts) (subst (IsOn d) (all-cons s start starts) on)) [
      | inl first ↦ scan-within s (start_at start) sound (start-within s start sound less) d first
      | inr rest ↦ all-within s starts start sound are.2 less d rest
    ]

pub all-part : (s : Subject) (starts : List ℕ) (place : ℕ) (d : Configuration) → IsSound s → AreStarts s starts place → place ≤ length s.symbols → IsOn d (all_look_ups s starts)
    → AreOf (look_ups s d) (all_look_ups s starts)
all-part s [] place d sound are within on = absurd (subst (IsOn d) (all-nil s) on)
all-part s (start ∷ starts) place d sound are within on =
    let less : start ≤ length s.symbols = omega (arith, within, are.1) in
    λ c there.
    subst (IsOn c) (sym (all-cons s start starts))
    (elim (on-append d (look_ups s (start_at start)) (all_look_ups s starts) (subst (IsOn d) (all-cons s start starts) on)) [
      | inl first ↦ on-left c (look_ups s (start_at start)) (all_look_ups s starts) (scan-part s (start_at start) d sound (start-within s start sound less) first c there)
      | inr rest ↦ on-right c (look_ups s (start_at start)) (all_look_ups s starts) (all-part s starts start d sound are.2 less rest c there)
    ])

pub on-scan : (s : Subject) (start : ℕ) (starts : List ℕ) (c : Configuration) → IsOn c (look_ups s (start_at start)) → IsOn c (all_look_ups s (start ∷ starts))
on-scan s start starts c on = subst (IsOn c) (sym (all-cons s start starts)) (on-left c (look_ups s (start_at start)) (all_look_ups s starts) on)

pub visited-within : (s : Subject) (starts : List ℕ) (end : ℕ) (path : List Configuration) → IsSound s → AreStarts s starts end → end ≤ length s.symbols → AreWithin s path → AreWithin s (path ++ all_look_ups s starts)
visited-within s starts end path sound are within inside d on =
    elim (on-append d path (all_look_ups s starts) on) [ inl first ↦ inside d first | inr before ↦ all-within s starts end sound are within d before ]

-- a scan that looked up a path, and would go on over what was looked up before
pub visited : (s : Subject) (starts : List ℕ) (start : ℕ) (path rest : List Configuration) → look_ups s (start_at start) ≡ onto path rest → ((c : Configuration) → IsOn c rest → IsOn c (all_look_ups s starts))
    → Same (path ++ all_look_ups s starts) (all_look_ups s (start ∷ starts))
visited s starts start path rest is part c = (
  λ on.
      elim (on-append c path (all_look_ups s starts) on) [
        | inl there ↦ on-scan s start starts c (subst (IsOn c) (sym is) (on-onto c path rest (inl there)))
        | inr before ↦ subst (IsOn c) (sym (all-cons s start starts)) (on-right c (look_ups s (start_at start)) (all_look_ups s starts) before)
      ],
  λ on.
      elim (on-append c (look_ups s (start_at start)) (all_look_ups s starts) (subst (IsOn c) (all-cons s start starts) on)) [
        | inl there ↦
            elim (onto-on c path rest (subst (IsOn c) is there)) [
              | inl first ↦ on-left c path (all_look_ups s starts) first
              | inr last ↦ on-right c path (all_look_ups s starts) (part c last)
            ]
        | inr before ↦ on-right c path (all_look_ups s starts) before
      ],
)

abbrev Picks : Subject → ℕ → Boundary → Type 0
Picks s start p = pick s.machine (drop start s.symbols) ≡ Some p

one-pick : (s : Subject) (a b : ℕ) (p q : Boundary) → a ≡ b → Picks s a p → Picks s b q → p.offset ≡ q.offset
one-pick s a b p q is first second =
    ap (λ (x : Boundary). x.offset) (same_Some p q (sym first ∙ ap (λ (n : ℕ). pick s.machine (drop n s.symbols)) is ∙ second))

-- a place that a segment ends at isn't within another
ahead : (s : Subject) (n : ℕ) (xs ys : List ℕ) (a b : ℕ) (p : Boundary) → length xs + length ys ≤ n → AreStarts s xs a → AreStarts s ys b → a < b → Picks s a p → a + p.offset ≤ b
ahead s n xs [] a b p most one other less picks = absurd (omega (arith, other, less))
ahead s zero xs (y ∷ ys) a b p most one other less picks = absurd (omega (arith, most))
ahead s (suc n) xs (y ∷ ys) a b p most one other less picks =
    elim (cases_lt a y) [
      | inl before ↦ let more = ahead s n xs ys a y p (omega (arith, most)) one other.2 before picks in omega (arith, more, other.1)
      | inr past ↦
          elim (cases_eq a y) [
            | inl same ↦ let equal = one-pick s a y p other.0.0 same picks other.0.1 in omega (arith, equal, same, other.0.2)
            | inr differs ↦
                let more = ahead s n ys xs y a other.0.0 (omega (arith, most)) other.2 one (omega (arith, past, differs)) other.0.1 in
                absurd (omega (arith, more, other.0.2, less))
          ]
    ]

pub one-start : (s : Subject) (xs ys : List ℕ) (place : ℕ) → AreStarts s xs place → AreStarts s ys place → xs ≡ ys
one-start s [] [] place one other = refl
one-start s [] (y ∷ ys) place one other = absurd (omega (arith, one, other.1))
one-start s (x ∷ xs) [] place one other = absurd (omega (arith, other, one.1))
one-start s (x ∷ xs) (y ∷ ys) place one other =
    let same : x ≡ y =
    elim (cases_eq x y) [
      | inl equal ↦ equal
      | inr differs ↦
          elim (cases_lt x y) [
            | inl less ↦
                let more = ahead s (length xs + length ys) xs ys x y one.0.0 (omega arith) one.2 other.2 less one.0.1 in
                absurd (omega (arith, more, one.0.2, other.1))
            | inr past ↦
                let more = ahead s (length xs + length ys) ys xs y x other.0.0 (omega arith) other.2 one.2 (omega (arith, past, differs)) other.0.1 in
                absurd (omega (arith, more, other.0.2, one.1))
          ]
    ] in
    ap (λ (start : ℕ). start ∷ xs) same ∙ ap (λ (starts : List ℕ). y ∷ starts) (one-start s xs ys y (subst (AreStarts s xs) same one.2) other.2)

pub one-count : (s : Subject) (place a b : ℕ) → AreLookedUp s place a → AreLookedUp s place b → a ≡ b
one-count s place a b (xs, one, is) (ys, other, same) = is ∙ ap (λ (starts : List ℕ). different (all_look_ups s starts)) (one-start s xs ys place one other) ∙ sym same
