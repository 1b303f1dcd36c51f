-- At a certain place a text may be split: scans before it stop there, whatever stands behind the symbol after it.
use Rattle.std.proofs.Common.{◌≡◌, ℕ, zero, suc, ◌+◌, ◌-◌, ◌<◌, ◌≤◌, min, List, [], ◌∷◌, ◌++◌, length, drop, map, take, take_at, replicate, refl, sym, ap, ◌∙◌, subst, inl, inr, arith, length-append}
use Rattle.std.specs.Prelude.{Some, None}
use Rattle.std.specs.Option.{option_map}
use Rattle.std.proofs.lemmas.Bool.{cases_eq}
use Rattle.std.proofs.lemmas.List.{drop-append-le, length-drop, length-map}
use Rattle.seg_text.specs.declared.boundary.Boundary.{Boundary}
use Rattle.seg_text.specs.Boundaries.{boundary, shift, shift_all, start, later_boundaries}
use Rattle.seg_text.proofs.Places.{shifted-append, shifted-twice}
use Rattle.seg_text.proofs.Stretches.{later-next, later-nil}
use Rattle.seg_data.proofs.Options.{if-some, option-cases}
use Rattle.seg_machine.specs.Machine.{Machine, run, scan, state_at, step, symbol_and_script, symbols_of}
use Rattle.seg_machine.specs.MachineFaults.{IsChecked}
use Rattle.seg_machine.specs.Pick.{machine_boundaries, machine_stretch, pick, picked_step}
use Rattle.seg_machine.proofs.Segmentations.{machine-going, machine-picks}
use Rattle.seg_machine.proofs.Transitions.{leads-to}
use Rattle.seg_machine.specs.Certain.{IsCertain, StopsBetween}
use Rattle.seg_machine.proofs.Passes.{stops-or-not}
use Rattle.seg_clusters.specs.Certain.{AreCertain, SplitsBetween, without_last}
use Rattle.seg_clusters.specs.Rules.{Rules, boundaries_by}
use Rattle.seg_clusters.specs.Rules.Rules.{ByMachine}
use Rattle.seg_clusters.proofs.Certain.{begins, begins-at, parts, pick-anew, pick-between, pick-short, pick-within, run-short, stops-short}

-- ---- scans

-- one that stops between two symbols enters what it enters by them, whatever stands behind
stops-same : (m : Machine) (one other : ℕ) (rest others : List ℕ) (state : ℕ) → StopsBetween m state one other
    → run m state (one ∷ other ∷ rest) ≡ run m state (one ∷ other ∷ others)
unfolding run
stops-same m one other rest others state stops =
    elim (option-cases (step m state one)) [
      | inl none ↦ rw none refl
      | inr (next, leads) ↦ rw (leads, if-some (step m state one) (λ (next : ℕ). step m next other ≡ None) next stops leads) refl
    ]

run-same : (m : Machine) → IsChecked m → (before one other : ℕ) → IsCertain m before one other → (earlier rest others : List ℕ) (state : ℕ) → state < length m.states
    → run m state (symbols_of m earlier ++ before ∷ one ∷ other ∷ rest) ≡ run m state (symbols_of m earlier ++ before ∷ one ∷ other ∷ others)
unfolding run
run-same m checked before one other certain [] rest others state here =
    elim (option-cases (step m state before)) [
      | inl none ↦ rw none refl
      | inr (next, leads) ↦
          let same = stops-same m one other rest others next (if-some (step m state before) (λ (next : ℕ). StopsBetween m next one other) next (certain.0 state here) leads) in
          rw leads (ap (λ (states : List ℕ). next ∷ states) same)
    ]
run-same m checked before one other certain (c ∷ earlier) rest others state here =
    let symbol = (symbol_and_script m c).0 in
    elim (option-cases (step m state symbol)) [
      | inl none ↦ rw none refl
      | inr (next, leads) ↦
          let within = leads-to m state symbol next leads (checked.in_range state symbol here (checked.text_symbols c).1) in
          let same = run-same m checked before one other certain earlier rest others next within in
          rw leads (ap (λ (states : List ℕ). next ∷ states) same)
    ]

-- ---- picks

-- scans that enter the same states, fewer than there are symbols, have one pick
pick-alike : (m : Machine) (symbols others : List ℕ) → scan m symbols ≡ scan m others → length (scan m symbols) < length symbols
    → length (scan m symbols) < length others → pick m symbols ≡ pick m others
unfolding pick
pick-alike m symbols others same fewer few =
    elim (option-cases (picked_step (map (state_at m) (scan m symbols)))) [
      | inl none ↦
          let alike = ap (λ (states : List ℕ). picked_step (map (state_at m) states)) (sym same) ∙ none in
          ap (option_map (λ (f : Boundary). boundary (min f.offset (length symbols)) f.status)) none
          ∙ sym (ap (option_map (λ (f : Boundary). boundary (min f.offset (length others)) f.status)) alike)
      | inr (f, is) ↦
          let alike = ap (λ (states : List ℕ). picked_step (map (state_at m) states)) (sym same) ∙ is in
          let found : pick m symbols ≡ Some (boundary (min f.offset (length symbols)) f.status) =
          ap (option_map (λ (f : Boundary). boundary (min f.offset (length symbols)) f.status)) is in
          let within = pick-within m symbols _ found in
          let offset : min f.offset (length symbols) ≡ min f.offset (length others) = omega (arith, within, fewer, few) in
          found
          ∙ ap (λ (offset : ℕ). Some (boundary offset f.status)) offset
          ∙ sym (ap (option_map (λ (f : Boundary). boundary (min f.offset (length others)) f.status)) alike)
    ]

-- ---- boundaries

-- a list and what is left of another have their boundaries in common up to a place, behind which the first has those of the rest, and the other
-- its end
record Splits (m : Machine) (whole alone rest : List ℕ) (place : ℕ) : Type 0 where
  front : List Boundary
  end : Boundary
  ends : later_boundaries (machine_stretch m) alone ≡ front ++ end ∷ []
  goes_on : later_boundaries (machine_stretch m) whole ≡ front ++ shift_all place (later_boundaries (machine_stretch m) rest)

-- behind a segment that both begin with
splits-behind : (m : Machine) (p : Boundary) (whole alone left other_left rest : List ℕ) (place : ℕ)
    → later_boundaries (machine_stretch m) whole ≡ p ∷ shift_all p.offset (later_boundaries (machine_stretch m) left)
    → later_boundaries (machine_stretch m) alone ≡ p ∷ shift_all p.offset (later_boundaries (machine_stretch m) other_left)
    → Splits m left other_left rest place → Splits m whole alone rest (p.offset + place)
splits-behind m p whole alone left other_left rest place are others s = record {
  front = p ∷ shift_all p.offset s.front;
  end = shift p.offset s.end;
  ends =
      others
      ∙ ap (λ (found : List Boundary). p ∷ shift_all p.offset found) s.ends
      ∙ ap (λ (found : List Boundary). p ∷ found) (shifted-append p.offset s.front (s.end ∷ []));
  goes_on =
      are
      ∙ ap (λ (found : List Boundary). p ∷ shift_all p.offset found) s.goes_on
      ∙ ap (λ (found : List Boundary). p ∷ found) (shifted-append p.offset s.front (shift_all place (later_boundaries (machine_stretch m) rest)))
      ∙ ap (λ (found : List Boundary). p ∷ shift_all p.offset s.front ++ found) (shifted-twice p.offset place (later_boundaries (machine_stretch m) rest));
}

none-left : (n : ℕ) (x : ℕ) → 0 < n → drop n (x ∷ []) ≡ []
none-left zero x some = absurd (omega arith)
none-left (suc zero) x some = refl
none-left (suc (suc n)) x some = refl

pub last-off : {X : Type 0} (xs : List X) (x : X) → without_last (xs ++ x ∷ []) ≡ xs
last-off xs x =
    let count : length (xs ++ x ∷ []) - 1 ≡ length xs = omega (arith, length-append xs (x ∷ [])) in
    ap (λ (n : ℕ). take n (xs ++ x ∷ [])) count ∙ take_at xs (x ∷ []) (length xs) refl

module _ (m : Machine) (checked : IsChecked m) where
  abbrev later_of : List ℕ → List Boundary
  later_of xs = later_boundaries (machine_stretch m) xs

  begins-with : (x : ℕ) (xs : List ℕ) (p : Boundary) → pick m (symbols_of m (x ∷ xs)) ≡ Some p
      → later_of (x ∷ xs) ≡ p ∷ shift_all p.offset (later_of (drop p.offset (x ∷ xs)))
  begins-with x xs p picks =
      let stretch = machine-picks m (x ∷ xs) p picks in
      rw stretch at (later-next (machine_stretch m) (machine-going m) x xs)

  begins-so : (earlier : List ℕ) (x : ℕ) (xs : List ℕ) (p : Boundary) → pick m (symbols_of m (earlier ++ x ∷ xs)) ≡ Some p
      → later_of (earlier ++ x ∷ xs) ≡ p ∷ shift_all p.offset (later_of (drop p.offset (earlier ++ x ∷ xs)))
  begins-so [] x xs p picks = begins-with x xs p picks
  begins-so (c ∷ earlier) x xs p picks = begins-with c (earlier ++ x ∷ xs) p picks

  -- at the end of a segment that both begin with
  splits-at : (p : Boundary) (whole alone rest : List ℕ) (other : ℕ) → later_of whole ≡ p ∷ shift_all p.offset (later_of rest)
      → later_of alone ≡ p ∷ shift_all p.offset (later_of (other ∷ [])) → Splits m whole alone rest p.offset
  splits-at p whole alone rest other are others =
      let b = begins m checked other [] in
      let none : later_of (drop b.p.offset (other ∷ [])) ≡ [] = ap later_of (none-left b.p.offset other b.some) ∙ later-nil (machine_stretch m) in
      record {
        front = p ∷ [];
        end = shift p.offset b.p;
        ends =
            others
            ∙ ap (λ (found : List Boundary). p ∷ shift_all p.offset found)
            (b.are ∙ ap (λ (found : List Boundary). b.p ∷ shift_all b.p.offset found) none);
        goes_on = are;
      }

module _ (m : Machine) (checked : IsChecked m) (before one other : ℕ)
    (certain : IsCertain m (symbol_and_script m before).0 (symbol_and_script m one).0 (symbol_and_script m other).0) where
  abbrev symbol : ℕ → ℕ
  symbol code_point = (symbol_and_script m code_point).0

  abbrev ends : List ℕ
  ends = replicate (length m.states) 0

  -- what stands behind the place changes no pick before it
  pick-same : (earlier later : List ℕ) → pick m (symbols_of m (earlier ++ before ∷ one ∷ other ∷ later)) ≡ pick m (symbols_of m (earlier ++ before ∷ one ∷ other ∷ []))
  unfolding scan
  pick-same earlier later =
      let whole = parts m checked before one other certain earlier later in
      let alone = parts m checked before one other certain earlier [] in
      let rest = symbols_of m later ++ ends in
      let same = run-same m checked (symbol before) (symbol one) (symbol other) certain earlier rest ends 0 checked.some_state in
      let short = run-short m checked (symbol before) (symbol one) (symbol other) certain earlier rest 0 checked.some_state in
      let entered : length (scan m (symbols_of m (earlier ++ before ∷ one ∷ other ∷ later))) ≡ length (run m 0 (symbols_of m earlier ++ symbol before ∷ symbol one ∷ symbol other ∷ rest)) =
      ap (λ (symbols : List ℕ). length (run m 0 symbols)) whole in
      let many : length (symbols_of m (earlier ++ before ∷ one ∷ other ∷ later)) ≡ length earlier + suc (suc (suc (length later))) =
      length-map (earlier ++ before ∷ one ∷ other ∷ later) symbol ∙ length-append earlier (before ∷ one ∷ other ∷ later) in
      let few : length (symbols_of m (earlier ++ before ∷ one ∷ other ∷ [])) ≡ length earlier + 3 =
      length-map (earlier ++ before ∷ one ∷ other ∷ []) symbol ∙ length-append earlier (before ∷ one ∷ other ∷ []) in
      pick-alike m _ _
      (ap (λ (symbols : List ℕ). run m 0 symbols) whole ∙ same ∙ sym (ap (λ (symbols : List ℕ). run m 0 symbols) alone))
      (omega (arith, entered, short, many)) (omega (arith, entered, short, few))

  pick-same-anew : StopsBetween m 0 (symbol one) (symbol other) → (later : List ℕ)
      → pick m (symbols_of m (one ∷ other ∷ later)) ≡ pick m (symbols_of m (one ∷ other ∷ []))
  unfolding scan
  pick-same-anew stops later =
      let short = stops-short m (symbol one) (symbol other) (symbols_of m later ++ ends) 0 stops in
      pick-alike m _ _ (stops-same m (symbol one) (symbol other) (symbols_of m later ++ ends) ends 0 stops) (omega (arith, short)) (omega (arith, short))

  -- where a segment starts right before the place
  splits-anew : StopsBetween m 0 (symbol one) (symbol other) → (later : List ℕ) → Splits m (one ∷ other ∷ later) (one ∷ other ∷ []) (other ∷ later) 1
  splits-anew stops later =
      let b = begins m checked one (other ∷ later) in
      let short = pick-anew m checked before one other certain stops later b.p b.picks in
      let some = b.some in
      let here : b.p.offset ≡ 1 = omega (arith, short, some) in
      let alone = begins-with m checked one (other ∷ []) b.p (sym (pick-same-anew stops later) ∙ b.picks) in
      let left : drop b.p.offset (one ∷ other ∷ later) ≡ other ∷ later = ap (λ (n : ℕ). drop n (one ∷ other ∷ later)) here in
      let other_left : drop b.p.offset (one ∷ other ∷ []) ≡ other ∷ [] = ap (λ (n : ℕ). drop n (one ∷ other ∷ [])) here in
      subst (λ (place : ℕ). Splits m (one ∷ other ∷ later) (one ∷ other ∷ []) (other ∷ later) place) here
      (splits-at m checked b.p (one ∷ other ∷ later) (one ∷ other ∷ []) (other ∷ later) other
      (b.are ∙ ap (λ (xs : List ℕ). b.p ∷ shift_all b.p.offset (later_of m checked xs)) left)
      (alone ∙ ap (λ (xs : List ℕ). b.p ∷ shift_all b.p.offset (later_of m checked xs)) other_left))

  behind-all : (earlier later : List ℕ) → drop (suc (suc (length earlier))) (earlier ++ before ∷ one ∷ other ∷ later) ≡ other ∷ later
  behind-all [] later = refl
  behind-all (c ∷ earlier) later = behind-all earlier later

  behind-two : (earlier later : List ℕ) → drop (suc (length earlier)) (earlier ++ before ∷ one ∷ other ∷ later) ≡ one ∷ other ∷ later
  behind-two [] later = refl
  behind-two (c ∷ earlier) later = behind-two earlier later

  splits-all : (most : ℕ) (earlier later : List ℕ) → length earlier < most
      → Splits m (earlier ++ before ∷ one ∷ other ∷ later) (earlier ++ before ∷ one ∷ other ∷ []) (other ∷ later) (length earlier + 2)
  splits-all zero earlier later bound = absurd (omega arith)
  splits-all (suc most) earlier later bound =
      let whole = earlier ++ before ∷ one ∷ other ∷ later in
      let alone = earlier ++ before ∷ one ∷ other ∷ [] in
      let b = begins-at m checked earlier before (one ∷ other ∷ later) in
      let short = pick-short m checked before one other certain earlier later b.p b.picks in
      let some = b.some in
      let n = b.p.offset in
      let others = begins-so m checked earlier before (one ∷ other ∷ []) b.p (sym (pick-same earlier later) ∙ b.picks) in
      elim (cases_eq n (length earlier + 2)) [
        | inl here ↦
            let taken : n ≡ suc (suc (length earlier)) = omega (arith, here) in
            let left : drop n whole ≡ other ∷ later = ap (λ (n : ℕ). drop n whole) taken ∙ behind-all earlier later in
            let other_left : drop n alone ≡ other ∷ [] = ap (λ (n : ℕ). drop n alone) taken ∙ behind-all earlier [] in
            subst (λ (place : ℕ). Splits m whole alone (other ∷ later) place) here
            (splits-at m checked b.p whole alone (other ∷ later) other
            (b.are ∙ ap (λ (xs : List ℕ). b.p ∷ shift_all n (later_of m checked xs)) left)
            (others ∙ ap (λ (xs : List ℕ). b.p ∷ shift_all n (later_of m checked xs)) other_left))
        | inr sooner ↦
            elim (cases_eq n (suc (length earlier))) [
              | inl right_before ↦
                  elim (stops-or-not m 0 (symbol_and_script m one).0 (symbol_and_script m other).0) [
                    | inl stops ↦
                        let left : drop n whole ≡ one ∷ other ∷ later = ap (λ (n : ℕ). drop n whole) right_before ∙ behind-two earlier later in
                        let other_left : drop n alone ≡ one ∷ other ∷ [] = ap (λ (n : ℕ). drop n alone) right_before ∙ behind-two earlier [] in
                        let place : n + 1 ≡ length earlier + 2 = omega (arith, right_before) in
                        subst (λ (place : ℕ). Splits m whole alone (other ∷ later) place) place
                        (splits-behind m b.p whole alone (one ∷ other ∷ later) (one ∷ other ∷ []) (other ∷ later) 1
                        (b.are ∙ ap (λ (xs : List ℕ). b.p ∷ shift_all n (later_of m checked xs)) left)
                        (others ∙ ap (λ (xs : List ℕ). b.p ∷ shift_all n (later_of m checked xs)) other_left) (splits-anew stops later))
                    | inr goes ↦ absurd (pick-between m checked before one other certain (certain.1 goes) earlier later b.p b.picks right_before)
                  ]
              | inr earlier_still ↦
                  let fewer : length (drop n earlier) ≡ length earlier - n = length-drop n earlier in
                  let within : n ≤ length earlier = omega (arith, short, sooner, earlier_still) in
                  let left : drop n whole ≡ drop n earlier ++ before ∷ one ∷ other ∷ later = drop-append-le n earlier (before ∷ one ∷ other ∷ later) within in
                  let other_left : drop n alone ≡ drop n earlier ++ before ∷ one ∷ other ∷ [] = drop-append-le n earlier (before ∷ one ∷ other ∷ []) within in
                  let place : n + (length (drop n earlier) + 2) ≡ length earlier + 2 = omega (arith, fewer, within) in
                  subst (λ (place : ℕ). Splits m whole alone (other ∷ later) place) place
                  (splits-behind m b.p whole alone (drop n earlier ++ before ∷ one ∷ other ∷ later) (drop n earlier ++ before ∷ one ∷ other ∷ []) (other ∷ later)
                  (length (drop n earlier) + 2) (b.are ∙ ap (λ (xs : List ℕ). b.p ∷ shift_all n (later_of m checked xs)) left)
                  (others ∙ ap (λ (xs : List ℕ). b.p ∷ shift_all n (later_of m checked xs)) other_left)
                  (splits-all most (drop n earlier) later (omega (arith, fewer, some, bound))))
            ]
      ]

pub certain-splits : (m : Machine) → IsChecked m → (before one other : ℕ)
    → IsCertain m (symbol_and_script m before).0 (symbol_and_script m one).0 (symbol_and_script m other).0 → SplitsBetween (machine_boundaries m) before one other
certain-splits m checked before one other certain earlier later =
    let s = splits-all m checked before one other certain (suc (length earlier)) earlier later (omega arith) in
    let front : without_last (machine_boundaries m (earlier ++ before ∷ one ∷ other ∷ [])) ≡ start ∷ s.front =
    ap (λ (found : List Boundary). without_last (start ∷ found)) s.ends ∙ last-off (start ∷ s.front) s.end in
    ap (λ (found : List Boundary). start ∷ found) s.goes_on
    ∙ sym
    (ap (λ (found : List Boundary). found ++ shift_all (length earlier + 2) (later_boundaries (machine_stretch m) (other ∷ later))) front)

pub splits-by : (rules : Rules) (m : Machine) → rules ≡ ByMachine m → IsChecked m → (before one other : ℕ)
    → AreCertain rules before one other → SplitsBetween (boundaries_by rules) before one other
splits-by rules m is checked before one other =
    subst (λ (rules : Rules). AreCertain rules before one other → SplitsBetween (boundaries_by rules) before one other) (sym is)
    (certain-splits m checked before one other)
