-- Lists of code points may be split after one whose symbol resets the machine.
use Rattle.std.proofs.Common.{◌≡◌, ℕ, zero, suc, ◌-◌, ◌<◌, ◌≤◌, min, List, [], ◌∷◌, ◌++◌, map, drop, length, replicate, refl, sym, ap, subst, ◌∙◌, arith, append_assoc, length-append}
use Rattle.std.specs.Prelude.{Option, Some, None, IfSome, IsSome}
use Rattle.std.specs.Option.{option_map, option_map_or}
use Rattle.std.proofs.lemmas.Bool.{false≢true}
use Rattle.std.proofs.lemmas.List.{length-drop, length-map, drop-append-le}
use Rattle.seg_text.specs.declared.boundary.Boundary.{Boundary}
use Rattle.seg_text.specs.Boundaries.{Stretch}
use Rattle.seg_machine.specs.MachineFaults.{IsChecked}
use Rattle.seg_machine.specs.Machine.{Machine, step, run, scan, state_at, symbol_and_script, symbol_count, symbols_of}
use Rattle.seg_machine.specs.Pick.{picked_step, pick, machine_stretch, machine_boundaries}
use Rattle.seg_machine.proofs.Segmentations.{machine-going, machine-within, symbols_of-text}
use Rattle.seg_machine.proofs.Transitions.{leads-to}
use Rattle.seg_clusters.specs.Rules.{PartsBehind, IsLastState, IsReset}
use Rattle.seg_clusters.proofs.Bounds.{same-place, up-to-picked}
use Rattle.seg_clusters.proofs.Joined.{EndsWithin, boundaries-joined}

-- a step leads to a state, or to none
data Leads (found : Option ℕ) : Type 0 where
  nowhere : found ≡ None → Leads found
  on-to : (next : ℕ) → found ≡ Some next → Leads found

leads : (found : Option ℕ) → Leads found
leads None = nowhere refl
leads (Some next) = on-to next refl

module _ (m : Machine) (checked : IsChecked m) where
  abbrev symbol : ℕ → ℕ
  symbol c = (symbol_and_script m c).0

  below : (c : ℕ) → symbol c < symbol_count m
  below c = (checked.text_symbols c).1

  some-symbol : 0 < symbol_count m
  some-symbol = let is = checked.text_symbols 0 in omega (arith, is.0, is.1)

  -- the rest of a scan: from a state on, over these code points, and so many ends
  abbrev rest : ℕ → List ℕ → ℕ → List ℕ
  rest state cs ends = run m state (map symbol cs ++ replicate ends 0)

  no-run : (state next : ℕ) (symbols : List ℕ) → step m state next ≡ None → run m state (next ∷ symbols) ≡ []
  unfolding run
  no-run state next symbols is = rw is refl

  run-on : (state symbol next : ℕ) (symbols : List ℕ) → step m state symbol ≡ Some next → run m state (symbol ∷ symbols) ≡ next ∷ run m next symbols
  unfolding run
  run-on state symbol next symbols is = rw is refl

  no-more : (state ends : ℕ) → IsLastState m state → run m state (replicate ends 0) ≡ []
  unfolding run
  no-more state zero last = refl
  no-more state (suc ends) last = no-run state 0 (replicate ends 0) (last 0 some-symbol)

  over : (state ends : ℕ) (cs : List ℕ) → IsLastState m state → rest state cs ends ≡ []
  over state ends [] last = no-more state ends last
  over state ends (c ∷ cs) last = no-run state (symbol c) (map symbol cs ++ replicate ends 0) (last (symbol c) (below c))

  -- what follows the code point changes no scan
  record IsCutOff (state : ℕ) (cs : List ℕ) (c : ℕ) (ds : List ℕ) (ends : ℕ) : Type 0 where
    same : rest state (cs ++ c ∷ ds) ends ≡ rest state (cs ++ c ∷ []) ends
    few : length (rest state (cs ++ c ∷ []) ends) ≤ suc (length cs)

  module _ (c : ℕ) (resets : IsReset m (symbol c)) where
    cut-off : (state : ℕ) (cs ds : List ℕ) (ends : ℕ) → state < length m.states → IsCutOff state cs c ds ends
    cut-off state [] ds ends here = on (leads (step m state (symbol c)))
      where
        on : Leads (step m state (symbol c)) → IsCutOff state [] c ds ends
        on (nowhere is) =
            let short = no-run state (symbol c) (replicate ends 0) is in
            record { same = no-run state (symbol c) (map symbol ds ++ replicate ends 0) is ∙ sym short; few = rw short (omega arith) }
        on (on-to next is) =
            let last : IsLastState m next = subst (λ (found : Option ℕ). IfSome found (IsLastState m)) is (resets state here) in
            let short = run-on state (symbol c) next (replicate ends 0) is ∙ ap (λ states. next ∷ states) (no-more next ends last) in
            record {
              same = run-on state (symbol c) next (map symbol ds ++ replicate ends 0) is ∙ ap (λ states. next ∷ states) (over next ends ds last) ∙ sym short;
              few = rw short (omega arith);
            }
    cut-off state (x ∷ cs) ds ends here = on (leads (step m state (symbol x))) (λ next there. cut-off next cs ds ends there)
      where
        on : Leads (step m state (symbol x)) → ((next : ℕ) → next < length m.states → IsCutOff next cs c ds ends) → IsCutOff state (x ∷ cs) c ds ends
        on (nowhere is) later =
            let short = no-run state (symbol x) (map symbol (cs ++ c ∷ []) ++ replicate ends 0) is in
            record { same = no-run state (symbol x) (map symbol (cs ++ c ∷ ds) ++ replicate ends 0) is ∙ sym short; few = rw short (omega arith) }
        on (on-to next is) later =
            let there = leads-to m state (symbol x) next is (checked.in_range state (symbol x) here (below x)) in
            let left = later next there in
            let few = left.few in
            let short = run-on state (symbol x) next (map symbol (cs ++ c ∷ []) ++ replicate ends 0) is in
            record {
              same = run-on state (symbol x) next (map symbol (cs ++ c ∷ ds) ++ replicate ends 0) is ∙ ap (λ states. next ∷ states) left.same ∙ sym short;
              few = rw short (omega arith);
            }

    abbrev pick_by : List ℕ → ℕ → Option Boundary
    pick_by states size = option_map (λ (f : Boundary). record { offset = min f.offset size; status = f.status }) (picked_step (map (state_at m) states))

    pick-is : (cs : List ℕ) → pick m (map symbol cs) ≡ pick_by (rest 0 cs (length m.states)) (length (map symbol cs))
    unfolding pick scan
    pick-is cs = refl

    same-pick : (cs ds : List ℕ) → pick m (map symbol (cs ++ c ∷ ds)) ≡ pick m (map symbol (cs ++ c ∷ []))
    same-pick cs ds =
        let off = cut-off 0 cs ds (length m.states) checked.some_state in
        let few = off.few in
        let states = rest 0 (cs ++ c ∷ []) (length m.states) in
        let mapped : length (map (state_at m) states) ≡ length states = length-map states (state_at m) in
        let one : length (map symbol (cs ++ c ∷ ds)) ≡ length (cs ++ c ∷ ds) = length-map (cs ++ c ∷ ds) symbol in
        let other : length (map symbol (cs ++ c ∷ [])) ≡ length (cs ++ c ∷ []) = length-map (cs ++ c ∷ []) symbol in
        let all = length-append cs (c ∷ ds) in
        let some = length-append cs (c ∷ []) in
        pick-is (cs ++ c ∷ ds)
        ∙ ap (λ states. pick_by states (length (map symbol (cs ++ c ∷ ds)))) off.same
        ∙ same-place (picked_step (map (state_at m) states)) (length (map (state_at m) states)) _ _ (up-to-picked (map (state_at m) states)) (omega (arith, mapped, one, all, few)) (omega (arith, mapped, other, some, few))
        ∙ sym (pick-is (cs ++ c ∷ []))

    abbrev stretch_of : Option Boundary → ℕ → Stretch
    stretch_of found size = option_map_or (λ (picked : Boundary). record { extent = picked.offset; boundaries = picked ∷ [] }) found (record { extent = size; boundaries = [] })

    stretch-is : (cs : List ℕ) → machine_stretch m cs ≡ stretch_of (pick m (map symbol cs)) (length cs)
    unfolding machine_stretch
    stretch-is cs = refl

    same-size : (found : Option Boundary) (one other : ℕ) → IsSome found → stretch_of found one ≡ stretch_of found other
    same-size None one other some = absurd (false≢true some)
    same-size (Some f) one other some = refl

    picks : (x : ℕ) (cs : List ℕ) → IsSome (pick m (map symbol (x ∷ cs)))
    picks x cs = checked.stall_free (symbols_of m (x ∷ cs)) (λ none. cc) (symbols_of-text m checked (x ∷ cs))

    same-stretch : (cs ds : List ℕ) → IsSome (pick m (map symbol (cs ++ c ∷ []))) → machine_stretch m (cs ++ c ∷ ds) ≡ machine_stretch m (cs ++ c ∷ [])
    same-stretch cs ds some =
        stretch-is (cs ++ c ∷ ds)
        ∙ ap (λ found. stretch_of found (length (cs ++ c ∷ ds))) (same-pick cs ds)
        ∙ same-size (pick m (map symbol (cs ++ c ∷ []))) _ _ some
        ∙ sym (stretch-is (cs ++ c ∷ []))

    -- the stretch of what ends with the code point
    ends-there : (cs ds : List ℕ)
        → (machine_stretch m (cs ++ c ∷ ds) ≡ machine_stretch m (cs ++ c ∷ [])) × ((machine_stretch m (cs ++ c ∷ [])).extent ≤ length (cs ++ c ∷ []))
    ends-there [] ds = (same-stretch [] ds (picks c []), (machine-within m checked c []).within)
    ends-there (x ∷ cs) ds = (same-stretch (x ∷ cs) ds (picks x (cs ++ c ∷ [])), (machine-within m checked x (cs ++ c ∷ [])).within)

    pub ends-within : (cs ds : List ℕ) → EndsWithin (machine_stretch m) (cs ++ c ∷ []) ds
    ends-within cs ds skipped less =
        let all = length-append cs (c ∷ []) in
        let front = drop-append-le skipped cs (c ∷ []) (omega (arith, all)) in
        let there = ends-there (drop skipped cs) ds in
        let size = length-append (drop skipped cs) (c ∷ []) in
        let left = length-drop skipped cs in
        let same : length (drop skipped cs ++ c ∷ []) ≡ length (cs ++ c ∷ []) - skipped = omega (arith, all, size, left) in
        rw front (ap (machine_stretch m) (append_assoc (drop skipped cs) (c ∷ []) ds) ∙ there.0, rw (← same) there.1)

    pub parts-lists : PartsBehind (machine_boundaries m) (c ∷ [])
    parts-lists before second = boundaries-joined (machine_stretch m) (machine-going m) second (before ++ c ∷ []) (ends-within before second)
