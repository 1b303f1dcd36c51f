-- Whether a state is a last one, read from the transitions.
use Rattle.std.proofs.Common.{◌≡◌, ◌≢◌, ℕ, ◌+◌, ◌*◌, ◌/◌, ◌<◌, ◌≤◌, List, length, ◌∙◌, sym, subst, arith, refl, inl, inr}
use Rattle.std.specs.Prelude.{None, slice_index}
use Rattle.std.proofs.lemmas.Bool.{cases_lt}
use Rattle.std.proofs.lemmas.Option.{none-some}
use Rattle.seg_machine.specs.Machine.{Machine, step, symbol_count}
use Rattle.seg_machine.proofs.Transitions.{step-none, step-some}
use Rattle.seg_clusters.specs.Rules.{IsLastState}

module _ (m : Machine) (state states : ℕ) (transitions : List ℕ) (same : states ≡ length m.states) (all : transitions ≡ m.transitions) where
  abbrev read : ℕ → ℕ
  read symbol = slice_index transitions (state + symbol * states)

  is-read : (symbol : ℕ) → read symbol ≡ slice_index m.transitions (state + symbol * length m.states)
  is-read symbol = rw (same, all) refl

  counted : length transitions / states ≡ symbol_count m
  unfolding symbol_count
  counted = rw (same, all) refl

  -- a symbol leads on
  pub leads-on : (symbol : ℕ) → symbol < length transitions / states → read symbol ≢ 255 → IsLastState m state → ⊥
  leads-on symbol below some last = none-some _ (sym (last symbol (omega (arith, below, counted))) ∙ step-some m state symbol (read symbol) (is-read symbol) some)

  -- none so far does, nor does this one
  pub one-more : (symbol : ℕ) → read symbol ≡ 255 → ((before : ℕ) → before < symbol → step m state before ≡ None)
      → (before : ℕ) → before < symbol + 1 → step m state before ≡ None
  one-more symbol none so_far before less =
      elim (cases_lt before symbol) [
        | inl under ↦ so_far before under
        | inr over ↦ let here : symbol ≡ before = omega arith in subst (λ (n : ℕ). step m state n ≡ None) here (step-none m state symbol (read symbol) (is-read symbol) none)
      ]

  -- none does
  pub is-last : (symbol : ℕ) → length transitions / states ≤ symbol → ((before : ℕ) → before < symbol → step m state before ≡ None) → IsLastState m state
  is-last symbol past so_far before below = so_far before (omega (arith, below, past, counted))
