-- At a certain place each list has a boundary: no scan passes it, and each segment takes some code points.
use Rattle.std.proofs.Common.{◌≡◌, ◌≢◌, ℕ, zero, suc, ◌+◌, ◌-◌, ◌<◌, ◌≤◌, List, [], ◌∷◌, ◌++◌, length, drop, replicate, slice_get, Contains, refl, sym, ap, ◌∙◌, subst, inl, inr, arith, append_assoc, length-append}
use Rattle.std.specs.Prelude.{Option, Some, None, IsSome, MatchOption}
use Rattle.std.specs.Option.{option_map, option_map_or}
use Rattle.std.proofs.lemmas.Bool.{cases_eq}
use Rattle.std.proofs.lemmas.List.{drop-append-le, length-drop, length-map, map-append}
use Rattle.std.proofs.lemmas.Option.{slice_get_within, slice_get-map, get_or_from_slice_get}
use Rattle.seg_text.specs.declared.boundary.Boundary.{Boundary}
use Rattle.seg_text.specs.Boundaries.{boundary, offsets, shift, shift_all, later_boundaries}
use Rattle.seg_text.proofs.Stretches.{later-next}
use Rattle.seg_data.proofs.Options.{if-some, option-cases}
use Rattle.seg_machine.specs.declared.provider.Acceptance.{Acceptance}
use Rattle.seg_machine.specs.declared.provider.Acceptance.TheVariants.{Continue, Accept, Conditional}
use Rattle.seg_machine.specs.Machine.{Machine, run, scan, state_at, step, symbol_and_script, symbols_of}
use Rattle.seg_machine.specs.MachineFaults.{IsChecked}
use Rattle.seg_machine.specs.Pick.{acceptance_status, machine_boundaries, machine_stretch, pick, IsPick}
use Rattle.seg_machine.specs.Scan.{entries}
use Rattle.seg_machine.proofs.Law.{pick-words}
use Rattle.seg_machine.proofs.Picks.{pick-bounds}
use Rattle.seg_machine.proofs.Segmentations.{machine-going, machine-picks, symbols_of-text}
use Rattle.seg_machine.proofs.Transitions.{leads-to}
use Rattle.seg_machine.specs.Certain.{GoesOnBy, IsCertain, NeverBreaks, StopsBetween}
use Rattle.seg_machine.proofs.Passes.{stops-or-not}
use Rattle.seg_clusters.specs.Certain.{AlwaysBreaks, AreCertain}
use Rattle.seg_clusters.specs.Rules.{Rules, boundaries_by}
use Rattle.seg_clusters.specs.Rules.Rules.{ByMachine}

-- ---- scans

-- one that stops between two symbols enters one state at most
pub stops-short : (m : Machine) (one other : ℕ) (rest : List ℕ) (state : ℕ) → StopsBetween m state one other → length (run m state (one ∷ other ∷ rest)) ≤ 1
unfolding run
stops-short m one other rest state stops =
    elim (option-cases (step m state one)) [
      | inl none ↦ rw none (omega arith)
      | inr (next, leads) ↦ rw (leads, if-some (step m state one) (λ (next : ℕ). step m next other ≡ None) next stops leads) (omega arith)
    ]

-- so none enters a state behind the place
pub run-short : (m : Machine) → IsChecked m → (before one other : ℕ) → IsCertain m before one other → (earlier rest : List ℕ) (state : ℕ) → state < length m.states
    → length (run m state (symbols_of m earlier ++ before ∷ one ∷ other ∷ rest)) ≤ length earlier + 2
unfolding run
run-short m checked before one other certain [] rest state here =
    elim (option-cases (step m state before)) [
      | inl none ↦ rw none (omega arith)
      | inr (next, leads) ↦
          let short = stops-short m one other rest next (if-some (step m state before) (λ (next : ℕ). StopsBetween m next one other) next (certain.0 state here) leads) in
          rw leads (omega (arith, short))
    ]
run-short m checked before one other certain (c ∷ earlier) rest state here =
    let symbol = (symbol_and_script m c).0 in
    elim (option-cases (step m state symbol)) [
      | inl none ↦ rw none (omega arith)
      | inr (next, leads) ↦
          let within = leads-to m state symbol next leads (checked.in_range state symbol here (checked.text_symbols c).1) in
          let short = run-short m checked before one other certain earlier rest next within in
          rw leads (omega (arith, short))
    ]

-- ---- picks

-- one is no longer than its scan
pub pick-within : (m : Machine) (symbols : List ℕ) (p : Boundary) → pick m symbols ≡ Some p → p.offset ≤ length (scan m symbols)
pick-within m symbols p is = on ((pick-words m symbols p.offset p.status).0 is)
  where
    long : length (entries m (scan m symbols)) ≡ length (scan m symbols)
    long = length-map (scan m symbols) (state_at m)

    on : IsPick (entries m (scan m symbols)) (length symbols) p.offset p.status → p.offset ≤ length (scan m symbols)
    on (inl (i, j, lookahead, held, n)) =
        let less = slice_get_within (entries m (scan m symbols)) i _ held.condition.here in
        let sooner = held.earlier in
        omega (arith, less, sooner, n, long)
    on (inr (none, (i, accepted, n))) =
        let less = slice_get_within (entries m (scan m symbols)) i _ accepted.accepts.here in
        omega (arith, less, n, long)

-- the states that a scan enters by two symbols, behind others
record EntersBoth (m : Machine) (entered : List ℕ) (one other n : ℕ) : Type 0 where
  from : ℕ
  within : from < length m.states
  next : ℕ
  leads : step m from one ≡ Some next
  here : slice_get entered n ≡ Some next
  later : (last : ℕ) → step m next other ≡ Some last → slice_get entered (suc n) ≡ Some last

enters-both : (m : Machine) → IsChecked m → (one other : ℕ) (earlier rest : List ℕ) (state : ℕ) → state < length m.states
    → length earlier < length (run m state (symbols_of m earlier ++ one ∷ other ∷ rest))
    → EntersBoth m (run m state (symbols_of m earlier ++ one ∷ other ∷ rest)) one other (length earlier)
unfolding run
enters-both m checked one other [] rest state here long =
    elim (option-cases (step m state one)) [
      | inl none ↦ absurd (let short : 0 < 0 = rw none at long in omega (arith, short))
      | inr (next, leads) ↦ record {
        from = state;
        within = here;
        next = next;
        leads = leads;
        here = rw leads refl;
        later = λ last goes. rw (leads, goes) refl;
      }
    ]
enters-both m checked one other (c ∷ earlier) rest state here long =
    let symbol = (symbol_and_script m c).0 in
    elim (option-cases (step m state symbol)) [
      | inl none ↦ absurd (let short : suc (length earlier) < 0 = rw none at long in omega (arith, short))
      | inr (next, leads) ↦
          let within = leads-to m state symbol next leads (checked.in_range state symbol here (checked.text_symbols c).1) in
          let whole : run m state (symbol ∷ (symbols_of m earlier ++ one ∷ other ∷ rest)) ≡ next ∷ run m next (symbols_of m earlier ++ one ∷ other ∷ rest) = rw leads refl in
          let count = ap length whole in
          let found = enters-both m checked one other earlier rest next within (omega (arith, long, count)) in
          record {
            from = found.from;
            within = found.within;
            next = found.next;
            leads = found.leads;
            here = ap (λ (entered : List ℕ). slice_get entered (suc (length earlier))) whole ∙ found.here;
            later = λ last goes. ap (λ (entered : List ℕ). slice_get entered (suc (suc (length earlier)))) whole ∙ found.later last goes;
          }
    ]

-- what a state accepts that accepts
accepted : (entry : Acceptance × Option ℕ) → IsSome (acceptance_status entry) → (status : ℕ) × (name : Option ℕ) × (entry ≡ (Accept status, name))
accepted (Accept status, name) some = (status, name, refl)
accepted (Continue, name) some = cc
accepted (Conditional lookahead status, name) some = cc

goes-on : (m : Machine) (state symbol : ℕ) → GoesOnBy m state symbol
    → (next : ℕ) × (step m state symbol ≡ Some next) × IsSome (acceptance_status (state_at m next))
goes-on m state symbol goes =
    elim (option-cases (step m state symbol)) [
      | inl none ↦ absurd (subst (λ (found : Option ℕ). MatchOption found ⊥ (λ next. IsSome (acceptance_status (state_at m next)))) none goes.0)
      | inr (next, leads) ↦
          (next, leads, subst (λ (found : Option ℕ). MatchOption found ⊥ (λ next. IsSome (acceptance_status (state_at m next)))) leads goes.0)
    ]

-- the state that a scan enters by the one symbol, where it enters as many, and how it goes on from there
module _ (m : Machine) (checked : IsChecked m) (one other : ℕ) (never : NeverBreaks m one other) (earlier rest states : List ℕ)
    (is : states ≡ run m 0 (symbols_of m earlier ++ one ∷ other ∷ rest)) where
  entered : (i : ℕ) → i ≡ length earlier → i < length (entries m states)
      → (found : EntersBoth m (run m 0 (symbols_of m earlier ++ one ∷ other ∷ rest)) one other (length earlier)) × GoesOnBy m found.next other
  entered i index inside =
      let long : length (entries m states) ≡ length states = length-map states (state_at m) in
      let found = enters-both m checked one other earlier rest 0 checked.some_state (let l = ap length is in omega (arith, inside, long, index, l)) in
      (found, if-some (step m found.from one) (λ (next : ℕ). GoesOnBy m next other) found.next (never found.from found.within) found.leads)

  entry-at : (n state : ℕ) → slice_get (run m 0 (symbols_of m earlier ++ one ∷ other ∷ rest)) n ≡ Some state → slice_get (entries m states) n ≡ Some (state_at m state)
  entry-at n state at = slice_get-map (state_at m) states n ∙ ap (option_map (state_at m)) (ap (λ (states : List ℕ). slice_get states n) is ∙ at)

  -- no segment ends between two symbols where none may
  never-ends : (count : ℕ) → suc (length earlier) < count → (n status : ℕ) → IsPick (entries m states) count n status → n ≡ suc (length earlier) → ⊥
  never-ends count more n status (inl (i, j, lookahead, held, ends)) at =
      let index : j ≡ length earlier = omega (arith, ends, at, more) in
      let names = held.names in
      let (found, goes) = entered j index (slice_get_within (entries m states) j _ names.here) in
      let entry : slice_get (entries m states) j ≡ Some (state_at m found.next) = ap (slice_get (entries m states)) index ∙ entry-at (length earlier) found.next found.here in
      let named : (state_at m found.next).1 ≡ Some lookahead = ap (λ (found : Option (Acceptance × Option ℕ)). option_map_or (λ (entry : Acceptance × Option ℕ). entry.1) found None) (sym entry ∙ names.here) in
      none-some lookahead (sym goes.1 ∙ named)
    where
      none-some : (x : ℕ) → None ≡ Some x → ⊥
      none-some x is = cc
  never-ends count more n status (inr (none, (i, last, ends))) at =
      let index : i ≡ length earlier = omega (arith, ends, at, more) in
      let accepts = last.accepts in
      let (found, goes) = entered i index (slice_get_within (entries m states) i _ accepts.here) in
      let (next, leads, some) = goes-on m found.next other goes in
      let (status, name, entry) = accepted (state_at m next) some in
      let there : slice_get (entries m states) (suc (length earlier)) ≡ Some (Accept status, name) =
      entry-at (suc (length earlier)) next (found.later next leads) ∙ ap Some entry in
      last.last (suc (length earlier)) status (omega (arith, index)) (record { name = name; here = there })

module _ (m : Machine) (checked : IsChecked m) (before one other : ℕ)
    (certain : IsCertain m (symbol_and_script m before).0 (symbol_and_script m one).0 (symbol_and_script m other).0) where
  abbrev pub symbol : ℕ → ℕ
  symbol code_point = (symbol_and_script m code_point).0

  abbrev pub ends : List ℕ
  ends = replicate (length m.states) 0

  pub parts : (earlier later : List ℕ) → symbols_of m (earlier ++ before ∷ one ∷ other ∷ later) ++ ends
      ≡ symbols_of m earlier ++ symbol before ∷ symbol one ∷ symbol other ∷ (symbols_of m later ++ ends)
  parts earlier later =
      ap (λ (symbols : List ℕ). symbols ++ ends) (map-append symbol earlier (before ∷ one ∷ other ∷ later))
      ∙ append_assoc (symbols_of m earlier) (symbol before ∷ symbol one ∷ symbol other ∷ symbols_of m later) ends

  -- no segment ends behind the place
  pub pick-short : (earlier later : List ℕ) (p : Boundary) → pick m (symbols_of m (earlier ++ before ∷ one ∷ other ∷ later)) ≡ Some p → p.offset ≤ length earlier + 2
  unfolding scan
  pick-short earlier later p is =
      let same = ap (λ (symbols : List ℕ). length (run m 0 symbols)) (parts earlier later) in
      let short = run-short m checked (symbol before) (symbol one) (symbol other) certain earlier (symbols_of m later ++ ends) 0 checked.some_state in
      let within = pick-within m _ p is in
      omega (arith, within, same, short)

  -- none ends before the last two, where none that starts there has to end at the place
  pub pick-between : NeverBreaks m (symbol before) (symbol one) → (earlier later : List ℕ) (p : Boundary) → pick m (symbols_of m (earlier ++ before ∷ one ∷ other ∷ later)) ≡ Some p
      → p.offset ≡ suc (length earlier) → ⊥
  unfolding scan
  pick-between never earlier later p is =
      let count : length (symbols_of m (earlier ++ before ∷ one ∷ other ∷ later)) ≡ length (earlier ++ before ∷ one ∷ other ∷ later) = length-map (earlier ++ before ∷ one ∷ other ∷ later) symbol in
      let whole : length (earlier ++ before ∷ one ∷ other ∷ later) ≡ length earlier + suc (suc (suc (length later))) = length-append earlier (before ∷ one ∷ other ∷ later) in
      never-ends m checked (symbol before) (symbol one) never earlier (symbol other ∷ (symbols_of m later ++ ends)) (scan m (symbols_of m (earlier ++ before ∷ one ∷ other ∷ later)))
      (ap (λ (symbols : List ℕ). run m 0 symbols) (parts earlier later)) _ (omega (arith, count, whole)) p.offset p.status ((pick-words m _ p.offset p.status).0 is)

  pub pick-anew : StopsBetween m 0 (symbol one) (symbol other) → (later : List ℕ) (p : Boundary) → pick m (symbols_of m (one ∷ other ∷ later)) ≡ Some p → p.offset ≤ 1
  unfolding scan
  pick-anew stops later p is =
      let short = stops-short m (symbol one) (symbol other) (symbols_of m later ++ ends) 0 stops in
      let within = pick-within m _ p is in
      omega (arith, within, short)

-- ---- boundaries

-- some boundary of a list is at this offset
abbrev HasOffset : List Boundary → ℕ → Type 0
HasOffset boundaries offset = (k status : ℕ) × (slice_get boundaries k ≡ Some (boundary offset status))

shifted : (n : ℕ) (boundaries : List Boundary) (offset : ℕ) → HasOffset boundaries offset → HasOffset (shift_all n boundaries) (n + offset)
shifted n boundaries offset (k, status, is) = (k, status, slice_get-map (shift n) boundaries k ∙ ap (option_map (shift n)) is)

contains : (boundaries : List Boundary) (offset : ℕ) → HasOffset boundaries offset → Contains (offsets boundaries) offset
contains boundaries offset (k, status, is) =
    let there : slice_get (offsets boundaries) k ≡ Some offset =
    slice_get-map (λ (boundary : Boundary). boundary.offset) boundaries k ∙ ap (option_map (λ (boundary : Boundary). boundary.offset)) is in
    (k, slice_get_within (offsets boundaries) k offset there, get_or_from_slice_get (offsets boundaries) k offset offset there)

-- what a list that isn't empty begins with: a segment, and then the rest
pub record Begins (m : Machine) (xs : List ℕ) : Type 0 where
  pub p : Boundary
  pub picks : pick m (symbols_of m xs) ≡ Some p
  pub some : 0 < p.offset
  pub are : later_boundaries (machine_stretch m) xs ≡ p ∷ shift_all p.offset (later_boundaries (machine_stretch m) (drop p.offset xs))

some-boundary : (found : Option Boundary) → IsSome found → (p : Boundary) × (found ≡ Some p)
some-boundary None some = cc
some-boundary (Some p) some = (p, refl)

some-symbol : (m : Machine) (x : ℕ) (xs : List ℕ) → symbols_of m (x ∷ xs) ≢ []
some-symbol m x xs none = cc

module _ (m : Machine) (checked : IsChecked m) where
  pub begins : (x : ℕ) (xs : List ℕ) → Begins m (x ∷ xs)
  begins x xs =
      let found = some-boundary (pick m (symbols_of m (x ∷ xs))) (checked.stall_free _ (some-symbol m x xs) (symbols_of-text m checked (x ∷ xs))) in
      let stretch = machine-picks m (x ∷ xs) found.0 found.1 in
      record {
        p = found.0;
        picks = found.1;
        some = (pick-bounds m _ found.0 found.1 (some-symbol m x xs)).0;
        are = rw stretch at (later-next (machine_stretch m) (machine-going m) x xs);
      }

  pub begins-at : (earlier : List ℕ) (x : ℕ) (xs : List ℕ) → Begins m (earlier ++ x ∷ xs)
  begins-at [] x xs = begins x xs
  begins-at (c ∷ earlier) x xs = begins c (earlier ++ x ∷ xs)

module _ (m : Machine) (checked : IsChecked m) (before one other : ℕ)
    (certain : IsCertain m (symbol_and_script m before).0 (symbol_and_script m one).0 (symbol_and_script m other).0) where
  abbrev later_of : List ℕ → List Boundary
  later_of xs = later_boundaries (machine_stretch m) xs

  -- where a segment starts right before the place
  behind-one : StopsBetween m 0 (symbol_and_script m one).0 (symbol_and_script m other).0 → (later : List ℕ) → HasOffset (later_of (one ∷ other ∷ later)) 1
  behind-one stops later =
      let b = begins m checked one (other ∷ later) in
      let short = pick-anew m checked before one other certain stops later b.p b.picks in
      let some = b.some in
      let here : b.p.offset ≡ 1 = omega (arith, short, some) in
      rw b.are (0, b.p.status, ap (λ (offset : ℕ). Some (boundary offset b.p.status)) here)

  -- where one starts sooner
  behind-all : (most : ℕ) (earlier later : List ℕ) → length earlier < most → HasOffset (later_of (earlier ++ before ∷ one ∷ other ∷ later)) (length earlier + 2)
  behind-all zero earlier later bound = absurd (omega arith)
  behind-all (suc most) earlier later bound =
      let xs = earlier ++ before ∷ one ∷ other ∷ later in
      let b = begins-at m checked earlier before (one ∷ other ∷ later) in
      let short = pick-short m checked before one other certain earlier later b.p b.picks in
      let some = b.some in
      let n = b.p.offset in
      elim (cases_eq n (length earlier + 2)) [
        | inl here ↦ rw b.are (0, b.p.status, ap (λ (offset : ℕ). Some (boundary offset b.p.status)) here)
        | inr sooner ↦
            elim (cases_eq n (suc (length earlier))) [
              | inl right_before ↦
                  elim (stops-or-not m 0 (symbol_and_script m one).0 (symbol_and_script m other).0) [
                    | inl stops ↦
                        let left : drop n xs ≡ one ∷ other ∷ later = ap (λ (n : ℕ). drop n xs) right_before ∙ left-one earlier in
                        let (k, status, is) = shifted n (later_of (one ∷ other ∷ later)) 1 (behind-one stops later) in
                        let place : n + 1 ≡ length earlier + 2 = omega (arith, right_before) in
                        rw (b.are, left) (suc k, status, is ∙ ap (λ (offset : ℕ). Some (boundary offset status)) place)
                    | inr goes ↦ absurd (pick-between m checked before one other certain (certain.1 goes) earlier later b.p b.picks right_before)
                  ]
              | inr earlier_still ↦
                  let fewer : length (drop n earlier) ≡ length earlier - n = length-drop n earlier in
                  let rest = behind-all most (drop n earlier) later (omega (arith, fewer, some)) in
                  let left : drop n xs ≡ drop n earlier ++ before ∷ one ∷ other ∷ later = drop-append-le n earlier (before ∷ one ∷ other ∷ later) (omega (arith, short, sooner, earlier_still)) in
                  let (k, status, is) = shifted n (later_of (drop n earlier ++ before ∷ one ∷ other ∷ later)) (length (drop n earlier) + 2) rest in
                  let place : n + (length (drop n earlier) + 2) ≡ length earlier + 2 = omega (arith, fewer, short, sooner, earlier_still) in
                  rw (b.are, left) (suc k, status, is ∙ ap (λ (offset : ℕ). Some (boundary offset status)) place)
            ]
      ]
    where
      left-one : (earlier : List ℕ) → drop (suc (length earlier)) (earlier ++ before ∷ one ∷ other ∷ later) ≡ one ∷ other ∷ later
      left-one [] = refl
      left-one (c ∷ earlier) = left-one earlier

pub certain-breaks : (m : Machine) → IsChecked m → (before one other : ℕ)
    → IsCertain m (symbol_and_script m before).0 (symbol_and_script m one).0 (symbol_and_script m other).0 → AlwaysBreaks (machine_boundaries m) before one other
certain-breaks m checked before one other certain earlier later =
    let (k, status, is) = behind-all m checked before one other certain (suc (length earlier)) earlier later (omega arith) in
    contains (machine_boundaries m (earlier ++ before ∷ one ∷ other ∷ later)) (length earlier + 2) (suc k, status, is)

pub certain-by : (rules : Rules) (m : Machine) → rules ≡ ByMachine m → IsChecked m → (before one other : ℕ)
    → AreCertain rules before one other → AlwaysBreaks (boundaries_by rules) before one other
certain-by rules m is checked before one other =
    subst (λ (rules : Rules). AreCertain rules before one other → AlwaysBreaks (boundaries_by rules) before one other) (sym is)
    (certain-breaks m checked before one other)
