-- A machine's steps, and its transitions.
use Rattle.std.proofs.Common.{◌≡◌, ◌≢◌, ℕ, suc, ◌+◌, ◌*◌, ◌/◌, ◌<◌, ◌≤◌, ◌==◌, List, length, Any, refl, subst, inl, inr, arith, eq-eqb}
use Rattle.std.specs.Prelude.{Option, Some, None, IfSome, slice_index}
use Rattle.std.proofs.lemmas.Bool.{cases_lt, cases_eq, cond-true, cond-false, ne_eqb}
use Rattle.std.proofs.lemmas.Nat.{mul-le}
use Rattle.seg_data.proofs.Anywhere.{any-at}
use Rattle.seg_machine.specs.Machine.{Machine, step, symbol_count}

-- the places of a state's transitions
pub place-within : (transitions states state symbol : ℕ) → state < states → symbol < transitions / states
    → state + symbol * states < transitions
place-within transitions states state symbol here below =
    let rows : suc symbol * states ≤ transitions / states * states = mul-le (suc symbol) states (transitions / states) states (omega arith) (omega arith) in
    omega (arith, rows)

pub place-of : (m : Machine) (state symbol : ℕ) → state < length m.states → symbol < symbol_count m
    → state + symbol * length m.states < length m.transitions
unfolding symbol_count
place-of m state symbol here below = place-within (length m.transitions) (length m.states) state symbol here below

pub step-none : (m : Machine) (state symbol next : ℕ) → next ≡ slice_index m.transitions (state + symbol * length m.states)
    → next ≡ 255 → step m state symbol ≡ None
unfolding step
step-none m state symbol next here trash = rw (← here) (cond-true (next == 255) None (Some next) (eq-eqb next 255 trash))

pub step-some : (m : Machine) (state symbol next : ℕ) → next ≡ slice_index m.transitions (state + symbol * length m.states)
    → next ≢ 255 → step m state symbol ≡ Some next
unfolding step
step-some m state symbol next here leads = rw (← here) (cond-false (next == 255) None (Some next) (ne_eqb next 255 leads))

-- each transition is 255 or a state
pub leads-within : (transitions : List ℕ) (states k : ℕ) → (Any (λ next. (next ≢ 255) × (states ≤ next)) transitions → ⊥)
    → k < length transitions → slice_index transitions k ≢ 255 → slice_index transitions k < states
leads-within transitions states k none within leads =
    elim (cases_lt (slice_index transitions k) states) [
      | inl below ↦ below
      | inr past ↦ absurd (none (any-at (λ next. (next ≢ 255) × (states ≤ next)) transitions k 0 within (leads, past)))
    ]

-- what a step leads to is a state
pub step-within : (m : Machine) (state symbol : ℕ) → (Any (λ next. (next ≢ 255) × (length m.states ≤ next)) m.transitions → ⊥)
    → state < length m.states → symbol < symbol_count m → IfSome (step m state symbol) (λ next. next < length m.states)
step-within m state symbol none here below =
    let place = place-of m state symbol here below in
    let next = slice_index m.transitions (state + symbol * length m.states) in
    elim (cases_eq next 255) [
      | inl trash ↦ rw (step-none m state symbol next refl trash) tt
      | inr leads ↦ rw (step-some m state symbol next refl leads) (leads-within m.transitions (length m.states) _ none place leads)
    ]

pub leads-to : (m : Machine) (state symbol next : ℕ) → step m state symbol ≡ Some next
    → IfSome (step m state symbol) (λ next. next < length m.states) → next < length m.states
leads-to m state symbol next is within = let P : Option ℕ → Type 0 = λ found. IfSome found (λ next. next < length m.states) in subst P is within
