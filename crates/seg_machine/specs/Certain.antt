-- Between which symbols no scan passes, whatever it read before them.
use Rattle.std.specs.Prelude.{◌≡◌, ℕ, ◌<◌, None, IfSome, IsSome, MatchOption, length}
use Rattle.seg_machine.specs.Machine.{Machine, state_at, step}
use Rattle.seg_machine.specs.Pick.{acceptance_status}

-- a scan in this state that reads the one symbol doesn't go on by the other
abbrev pub StopsBetween : Machine → ℕ → ℕ → ℕ → Type 0
StopsBetween m state one other = IfSome (step m state one) (λ next. step m next other ≡ None)

-- a scan in this state goes on by the symbol to a state that accepts, and names no lookahead before it
abbrev pub GoesOnBy : Machine → ℕ → ℕ → Type 0
GoesOnBy m state symbol =
    MatchOption (step m state symbol) ⊥ (λ next. IsSome (acceptance_status (state_at m next))) × ((state_at m state).1 ≡ None)

-- between two symbols no segment ends: each scan that read the one goes on by the other
abbrev pub NeverBreaks : Machine → ℕ → ℕ → Type 0
NeverBreaks m one other = (state : ℕ) → state < length m.states → IfSome (step m state one) (λ next. GoesOnBy m next other)

-- no scan passes between the last two of three symbols: none that read the first, in whatever state; nor one that starts right behind it, unless
-- none starts there, since no segment ends there
abbrev pub IsCertain : Machine → ℕ → ℕ → ℕ → Type 0
IsCertain m before one other =
    ((state : ℕ) → state < length m.states → IfSome (step m state before) (λ next. StopsBetween m next one other))
    × ((StopsBetween m 0 one other → ⊥) → NeverBreaks m before one)
