-- The last of some steps, where one more is taken.
use Rattle.std.proofs.Common.{◌≡◌, ℕ, suc, Option, Some, None, List, [], ◌∷◌, ◌++◌, length, refl, ◌∙◌, ap}
use Rattle.std.specs.Option.{option_map, option_or}
use Rattle.seg_text.specs.declared.boundary.Boundary.{Boundary}
use Rattle.seg_text.specs.Boundaries.{boundary}
use Rattle.seg_machine.specs.declared.provider.Acceptance.{Acceptance}
use Rattle.seg_machine.specs.Pick.{later, last_step}

-- the value of a state, at a step
abbrev pub at_step : ℕ → Option ℕ → Option Boundary
at_step step value = option_map (λ (v : ℕ). boundary step v) value

later-either : (f g : Option Boundary) → later (option_or f g) ≡ option_or (later f) (later g)
later-either None g = refl
later-either (Some f) g = refl

later-at_step : (n : ℕ) (v : Option ℕ) → later (at_step n v) ≡ at_step (suc n) v
later-at_step n None = refl
later-at_step n (Some v) = refl

either-assoc : (f g h : Option Boundary) → option_or (option_or f g) h ≡ option_or f (option_or g h)
either-assoc None g h = refl
either-assoc (Some f) g h = refl

pub last_step-push : (value : Acceptance × Option ℕ → Option ℕ) (states : List (Acceptance × Option ℕ)) (state : Acceptance × Option ℕ) → last_step value (states ++ state ∷ []) ≡ option_or (at_step (suc (length states)) (value state)) (last_step value states)
unfolding last_step
last_step-push value [] state = on (value state)
  where
    on : (v : Option ℕ) → option_or None (at_step 1 v) ≡ option_or (at_step 1 v) None
    on None = refl
    on (Some v) = refl
last_step-push value (s ∷ states) state =
    ap (λ (f : Option Boundary). option_or (later f) (at_step 1 (value s))) (last_step-push value states state)
    ∙ ap (λ (f : Option Boundary). option_or f (at_step 1 (value s))) (later-either (at_step (suc (length states)) (value state)) (last_step value states) ∙ ap (λ (f : Option Boundary). option_or f (later (last_step value states))) (later-at_step (suc (length states)) (value state)))
    ∙ either-assoc (at_step (suc (suc (length states))) (value state)) (later (last_step value states)) (at_step 1 (value s))
