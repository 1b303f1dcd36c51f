-- Buffers of a caller, which take the first of some numbers or other things.
use Rattle.std.specs.Prelude.{◌≡◌, ◌≤◌, ℕ, nat_lt, if◌then◌else◌, ◌++◌, List, [], ◌∷◌, drop, map, take, length, min}
use Rattle.seg_text.specs.declared.boundary.Boundary.{Boundary}
use Rattle.seg_text.specs.Boundaries.{Remainder, offsets}

-- so many were written over the first ones of a buffer: as many as there are and there is room for. Those behind them stay
pub record TakesFirst {X : Type 0} (room : ℕ) (all old new : List X) (count : ℕ) : Type 0 where
  pub few : count ≡ min (length all) room
  pub first : new ≡ take count all ++ drop count old

-- a buffer by itself
abbrev pub IsFilled : {X : Type 0} (all old new : List X) → ℕ → Type 0
IsFilled all old new count = TakesFirst (length old) all old new count

abbrev pub statuses : List Boundary → List ℕ
statuses boundaries = map (λ (boundary : Boundary). boundary.status) boundaries

-- the status of the last of these boundaries, or that of the one before them, where there are none
abbrev pub last_status : ℕ → List Boundary → ℕ
last_status status [] = status
last_status status (boundary ∷ boundaries) = last_status boundary.status boundaries

-- what an engine has still to give, once it was asked for so many boundaries and gave so many: fewer only where no more are left
abbrev pub after_given : ℕ → ℕ → Remainder → Remainder
after_given room count before = record {
  left = drop count before.left;
  status = if nat_lt count room then 0 else last_status before.status (take count before.left);
}

-- it wrote their places over the first ones of a buffer
pub record WritesPlaces (before after : Remainder) (old new : List ℕ) (count : ℕ) : Type 0 where
  pub places : IsFilled (offsets before.left) old new count
  pub left : after ≡ after_given (length old) count before

-- it wrote their places over the first ones of a buffer and their statuses over those of another, so many for which both have room
pub record WritesBoth (room : ℕ) (before after : Remainder) (old new olds news : List ℕ) (count : ℕ) : Type 0 where
  pub places : TakesFirst room (offsets before.left) old new count
  pub statuses_are : TakesFirst room (statuses before.left) olds news count
  pub left : after ≡ after_given room count before

-- of these boundaries the places of the first ones were written over the first of a buffer and their statuses over those of another, and the others are left
pub record WritesSome (before after : List Boundary) (old new olds news : List ℕ) (count : ℕ) : Type 0 where
  pub some : count ≤ length before
  pub room : count ≤ min (length old) (length olds)
  pub places : new ≡ take count (offsets before) ++ drop count old
  pub statuses_are : news ≡ take count (statuses before) ++ drop count olds
  pub left : after ≡ drop count before
