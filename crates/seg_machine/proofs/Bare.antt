-- What a machine's states and transitions alone decide.
use Rattle.std.proofs.Common.{◌≡◌, ℕ, zero, suc, ◌<◌, List, [], ◌∷◌, map, refl, sym, ap, ◌∙◌, inl, inr}
use Rattle.std.specs.Prelude.{Option, Some, None, IsSome}
use Rattle.std.specs.Option.{is_some}
use Rattle.std.proofs.lemmas.Bool.{both_ways}
use Rattle.seg_data.proofs.Options.{option-cases}
use Rattle.seg_machine.specs.Machine.{Machine, MachineTailoring, IsTextSymbol, with_tailoring, without_transitions, symbol_and_script, symbol_count, step, run, scan, state_after_ends, state_at}
use Rattle.seg_machine.specs.Pick.{pick, HasStall, IsStallFree}
use Rattle.seg_machine.specs.MachineFaults.{HasEndCycle, HasTextSymbols, IsChecked}
use Rattle.seg_machine.specs.Search.{bare}
use Rattle.seg_machine.proofs.Walks.{walk-next, walk-end}

abbrev plain : Machine → Machine
plain m = bare m.states m.transitions

pub step-plain : (m : Machine) (q symbol : ℕ) → step (plain m) q symbol ≡ step m q symbol
unfolding step
step-plain m q symbol = refl

run-plain : (m : Machine) (q : ℕ) (symbols : List ℕ) → run (plain m) q symbols ≡ run m q symbols
unfolding run
run-plain m q [] = refl
run-plain m q (symbol ∷ symbols) =
    rw (step-plain m q symbol)
    (elim (option-cases (step m q symbol)) [
      | inl ends ↦ rw ends refl
      | inr (next, leads) ↦ rw leads (ap (λ states. next ∷ states) (run-plain m next symbols))
    ])

map-plain : (m : Machine) (states : List ℕ) → map (state_at (plain m)) states ≡ map (state_at m) states
unfolding state_at
map-plain m [] = refl
map-plain m (state ∷ states) = ap (λ rest. state_at m state ∷ rest) (map-plain m states)

pick-plain : (m : Machine) (symbols : List ℕ) → pick (plain m) symbols ≡ pick m symbols
unfolding pick scan
pick-plain m symbols = rw (run-plain m 0, map-plain m) refl

walk-plain : (m : Machine) (q steps : ℕ) → state_after_ends (plain m) q steps ≡ state_after_ends m q steps
unfolding state_after_ends
walk-plain m q zero = refl
walk-plain m q (suc steps) =
    elim (option-cases (step m q 0)) [
      | inl ends ↦ walk-end (plain m) q steps (step-plain m q 0 ∙ ends) ∙ sym (walk-end m q steps ends)
      | inr (next, leads) ↦ walk-next (plain m) q next steps (step-plain m q 0 ∙ leads) ∙ walk-plain m next steps ∙ sym (walk-next m q next steps leads)
    ]

pub cycle-plain : (m : Machine) → HasEndCycle m → HasEndCycle (plain m)
cycle-plain m (state, steps, here, round) = (state, steps, here, walk-plain m state (suc steps) ∙ round)

pub cycle-full : (m : Machine) → HasEndCycle (plain m) → HasEndCycle m
cycle-full m (state, steps, here, round) = (state, steps, here, sym (walk-plain m state (suc steps)) ∙ round)

text-plain : (m : Machine) (symbol : ℕ) → IsTextSymbol m symbol → IsTextSymbol (plain m) symbol
unfolding symbol_count
text-plain m symbol text = text

text-full : (m : Machine) (symbol : ℕ) → IsTextSymbol (plain m) symbol → IsTextSymbol m symbol
unfolding symbol_count
text-full m symbol text = text

pub stall_free-full : (m : Machine) → IsStallFree (plain m) → IsStallFree m
stall_free-full m free symbols some text =
    rw (← pick-plain m symbols) (free symbols some (λ k d less. text-plain m _ (text k d less)))

stall_free-plain : (m : Machine) → IsStallFree m → IsStallFree (plain m)
stall_free-plain m free symbols some text =
    rw (pick-plain m symbols) (free symbols some (λ k d less. text-full m _ (text k d less)))

pub stall-full : (m : Machine) → HasStall (plain m) → HasStall m
stall-full m (symbols, some, text, none) = (symbols, some, λ k d less. text-full m _ (text k d less), sym (pick-plain m symbols) ∙ none)

pub no-stall : (m : Machine) → IsStallFree m → HasStall m → ⊥
no-stall m free (symbols, some, text, none) = both_ways (is_some (pick m symbols)) (ap is_some none) (free symbols some text)

some-unless : {X : Type 0} (found : Option X) → (found ≡ None → ⊥) → IsSome found
some-unless None other = absurd (other refl)
some-unless (Some x) other = refl

pub stall_free-from : (m : Machine) → (HasStall m → ⊥) → IsStallFree m
stall_free-from m none symbols some text = some-unless (pick m symbols) (λ is. none (symbols, some, text, is))

pub count-tailored : (m : Machine) (t : MachineTailoring) (symbol : ℕ) → symbol < symbol_count (with_tailoring m (Some t)) → symbol < symbol_count m
unfolding symbol_count
count-tailored m t symbol below = below

-- transitions have no part in what symbols code points have
pub symbol-without : (m : Machine) (code_point : ℕ) → (symbol_and_script (without_transitions m) code_point).0 ≡ (symbol_and_script m code_point).0
unfolding symbol_and_script
symbol-without m code_point = refl

pub step-tailored : (m : Machine) (t : MachineTailoring) (q symbol : ℕ) → step m q symbol ≡ step (with_tailoring m (Some t)) q symbol
unfolding step
step-tailored m t q symbol = refl

-- a tailoring that gives each code point a symbol of a text leaves the machine checked
pub checked-tailored : (m : Machine) (t : MachineTailoring) → IsChecked m → HasTextSymbols (with_tailoring m (Some t)) → IsChecked (with_tailoring m (Some t))
unfolding step symbol_count state_at
checked-tailored m t checked text =
    let tailored = with_tailoring m (Some t) in
    record {
      some_state = checked.some_state;
      few_states = checked.few_states;
      text_symbols = text;
      in_range = checked.in_range;
      few_lookaheads = checked.few_lookaheads;
      lookaheads = checked.lookaheads;
      ends = λ state here. rw (← run-plain tailored state, run-plain m state) (checked.ends state here);
      stall_free = stall_free-full tailored (stall_free-plain m checked.stall_free);
    }
