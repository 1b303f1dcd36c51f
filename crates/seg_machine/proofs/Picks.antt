-- A pick takes at least one symbol.
use Rattle.std.proofs.Common.{◌≡◌, ◌≢◌, ℕ, ◌<◌, ◌≤◌, min, List, [], ◌∷◌, ◌++◌, length, map, refl, ap, arith}
use Rattle.std.specs.Prelude.{Option, Some, None, IfSome}
use Rattle.std.specs.Option.{option_map, option_or}
use Rattle.seg_text.specs.declared.boundary.Boundary.{Boundary}
use Rattle.seg_text.specs.Boundaries.{boundary}
use Rattle.std.proofs.lemmas.Option.{none-some, same_Some}
use Rattle.seg_machine.specs.declared.provider.Acceptance.{Acceptance}
use Rattle.seg_machine.specs.declared.provider.Acceptance.TheVariants.{Continue, Accept, Conditional}
use Rattle.seg_machine.specs.Machine.{Machine, scan, state_at}
use Rattle.seg_machine.specs.Pick.{later, last_step, acceptance_status, naming, condition, first_condition, picked_step, pick}

-- a pick's step, if there is one, is at least 1
abbrev IsAhead : Option Boundary → Type 0
IsAhead found = IfSome found (λ (f : Boundary). 0 < f.offset)

ahead-either : (first second : Option Boundary) → IsAhead first → IsAhead second → IsAhead (option_or first second)
ahead-either (Some found) second first-ahead second-ahead = first-ahead
ahead-either None second first-ahead second-ahead = second-ahead

ahead-later : (found : Option Boundary) → IsAhead (later found)
ahead-later (Some found) = omega arith
ahead-later None = tt

ahead-one : (value : Option ℕ) → IsAhead (option_map (λ (v : ℕ). boundary 1 v) value)
ahead-one (Some v) = omega arith
ahead-one None = tt

ahead-last : (value : Acceptance × Option ℕ → Option ℕ) (states : List (Acceptance × Option ℕ)) → IsAhead (last_step value states)
unfolding last_step
ahead-last value [] = tt
ahead-last value (state ∷ states) = ahead-either (later (last_step value states)) _ (ahead-later (last_step value states)) (ahead-one (value state))

ahead-status : (found : Option Boundary) (status : ℕ) → IsAhead found → IsAhead (option_map (λ (f : Boundary). boundary f.offset status) found)
ahead-status (Some found) status ahead = ahead
ahead-status None status ahead = tt

ahead-condition : (earlier : List (Acceptance × Option ℕ)) (state : Acceptance × Option ℕ) → IsAhead (condition earlier state)
ahead-condition earlier (Conditional lookahead status, names) = ahead-status (last_step (naming lookahead) earlier) status (ahead-last (naming lookahead) earlier)
ahead-condition earlier (Accept status, names) = tt
ahead-condition earlier (Continue, names) = tt

ahead-first : (earlier states : List (Acceptance × Option ℕ)) → IsAhead (first_condition earlier states)
unfolding first_condition
ahead-first earlier [] = tt
ahead-first earlier (state ∷ states) = ahead-either (condition earlier state) _ (ahead-condition earlier state) (ahead-first (earlier ++ state ∷ []) states)

ahead-picked : (states : List (Acceptance × Option ℕ)) → IsAhead (picked_step states)
ahead-picked states = ahead-either (first_condition [] states) _ (ahead-first [] states) (ahead-last acceptance_status states)

bounds-of : (found : Option Boundary) (n : ℕ) (p : Boundary) → IsAhead found → 0 < n
    → option_map (λ (f : Boundary). boundary (min f.offset n) f.status) found ≡ Some p → (0 < p.offset) × (p.offset ≤ n)
bounds-of None n p ahead some is = absurd (none-some p is)
bounds-of (Some found) n p ahead some is =
    let first : min found.offset n ≡ p.offset = ap (λ (f : Boundary). f.offset) (same_Some _ _ is) in
    (omega arith, omega arith)

some-length : (symbols : List ℕ) → symbols ≢ [] → 0 < length symbols
some-length [] some = absurd (some refl)
some-length (symbol ∷ symbols) some = omega arith

-- a pick takes at least one symbol, and no more than there are
pub pick-bounds : (m : Machine) (symbols : List ℕ) (p : Boundary) → pick m symbols ≡ Some p → symbols ≢ []
    → (0 < p.offset) × (p.offset ≤ length symbols)
unfolding pick
pick-bounds m symbols p is some =
    bounds-of (picked_step (map (state_at m) (scan m symbols))) (length symbols) p (ahead-picked _) (some-length symbols some) is
