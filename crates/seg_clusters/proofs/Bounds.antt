-- A pick is at most as far as the states that were entered.
use Rattle.std.proofs.Common.{◌≡◌, ℕ, suc, ◌+◌, ◌≤◌, min, List, [], ◌∷◌, ◌++◌, length, refl, ap, arith, length-append}
use Rattle.std.specs.Prelude.{Option, Some, None, IfSome}
use Rattle.std.specs.Option.{option_map, option_or}
use Rattle.seg_text.specs.declared.boundary.Boundary.{Boundary}
use Rattle.seg_text.specs.Boundaries.{boundary}
use Rattle.seg_machine.specs.declared.provider.Acceptance.{Acceptance}
use Rattle.seg_machine.specs.declared.provider.Acceptance.TheVariants.{Continue, Accept, Conditional}
use Rattle.seg_machine.specs.Pick.{later, last_step, naming, acceptance_status, condition, first_condition, picked_step}

abbrev Entry : Type 0
Entry = Acceptance × Option ℕ

abbrev pub IsUpTo : ℕ → Option Boundary → Type 0
IsUpTo n found = IfSome found (λ (f : Boundary). f.offset ≤ n)

either : (n : ℕ) (first second : Option Boundary) → IsUpTo n first → IsUpTo n second → IsUpTo n (option_or first second)
either n (Some f) second a b = a
either n None second a b = b

one-later : (n : ℕ) (found : Option Boundary) → IsUpTo n found → IsUpTo (suc n) (later found)
one-later n (Some f) h = omega arith
one-later n None h = tt

one : (n : ℕ) (value : Option ℕ) → IsUpTo (suc n) (option_map (λ (v : ℕ). boundary 1 v) value)
one n (Some v) = omega arith
one n None = tt

more : (n m : ℕ) (found : Option Boundary) → n ≤ m → IsUpTo n found → IsUpTo m found
more n m (Some f) less h = omega arith
more n m None less h = tt

up-to-last : (value : Entry → Option ℕ) (states : List Entry) → IsUpTo (length states) (last_step value states)
unfolding last_step
up-to-last value [] = tt
up-to-last value (state ∷ states) =
    either (suc (length states)) (later (last_step value states)) _ (one-later (length states) (last_step value states) (up-to-last value states)) (one (length states) (value state))

with-status : (n status : ℕ) (found : Option Boundary) → IsUpTo n found → IsUpTo n (option_map (λ (f : Boundary). boundary f.offset status) found)
with-status n status (Some f) h = h
with-status n status None h = tt

up-to-condition : (earlier : List Entry) (state : Entry) → IsUpTo (length earlier) (condition earlier state)
up-to-condition earlier (Conditional lookahead status, name) = with-status (length earlier) status (last_step (naming lookahead) earlier) (up-to-last (naming lookahead) earlier)
up-to-condition earlier (Accept status, name) = tt
up-to-condition earlier (Continue, name) = tt

up-to-first : (earlier states : List Entry) → IsUpTo (length earlier + length states) (first_condition earlier states)
unfolding first_condition
up-to-first earlier [] = tt
up-to-first earlier (state ∷ states) =
    let size = length-append earlier (state ∷ []) in
    either (length earlier + suc (length states)) (condition earlier state) _
    (more (length earlier) _ (condition earlier state) (omega arith) (up-to-condition earlier state))
    (more (length (earlier ++ state ∷ []) + length states) _ (first_condition (earlier ++ state ∷ []) states) (omega (arith, size)) (up-to-first (earlier ++ state ∷ []) states))

pub up-to-picked : (states : List Entry) → IsUpTo (length states) (picked_step states)
up-to-picked states = either (length states) (first_condition [] states) _ (more (0 + length states) _ (first_condition [] states) (omega arith) (up-to-first [] states)) (up-to-last acceptance_status states)

-- so more symbols than states change nothing
pub same-place : (found : Option Boundary) (n one other : ℕ) → IsUpTo n found → n ≤ one → n ≤ other
    → option_map (λ (f : Boundary). boundary (min f.offset one) f.status) found ≡ option_map (λ (f : Boundary). boundary (min f.offset other) f.status) found
same-place None n one other h le more = refl
same-place (Some f) n one other h le more =
    let same : min f.offset one ≡ min f.offset other = omega arith in
    ap (λ k. Some (boundary k f.status)) same
