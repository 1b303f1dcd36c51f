-- The pick of a text: where its first segment ends, and with which status. Steps count from 1.
use Rattle.std.specs.Prelude.{◌≡◌, ◌≢◌, ℕ, suc, ◌==◌, min, if◌then◌else◌, Option, Some, None, List, [], ◌∷◌, ◌++◌, length, map, IsSome, All, ◌<◌, ◌⊎◌, slice_get}
use Rattle.std.specs.Option.{option_map, option_or, option_map_or}
use Rattle.seg_text.specs.declared.boundary.Boundary.{Boundary}
use Rattle.seg_text.specs.Boundaries.{boundary, Stretch, list_boundaries}
use Rattle.seg_machine.specs.declared.provider.Acceptance.{Acceptance}
use Rattle.seg_machine.specs.declared.provider.Acceptance.TheVariants.{Accept, Conditional}
use Rattle.seg_machine.specs.Machine.{Machine, IsTextSymbol, scan, state_at, symbols_of}

-- one step later
abbrev pub later : Option Boundary → Option Boundary
later found = option_map (λ (f : Boundary). boundary (suc f.offset) f.status) found

-- the last of the states at which `value` is something: its step, and the value
unfoldable pub last_step : (Acceptance × Option ℕ → Option ℕ) → List (Acceptance × Option ℕ) → Option Boundary
last_step value [] = None
last_step value (state ∷ states) =
    option_or (later (last_step value states)) (option_map (λ v. boundary 1 v) (value state))

-- the status that a state accepts with
abbrev pub acceptance_status : Acceptance × Option ℕ → Option ℕ
acceptance_status (Accept status, naming) = Some status
acceptance_status (_, naming) = None

-- the lookahead, where the state names it
abbrev pub naming : ℕ → Acceptance × Option ℕ → Option ℕ
naming lookahead (acceptance, Some name) = if name == lookahead then Some name else None
naming lookahead (acceptance, None) = None

-- what a condition picks after earlier states, if it holds there: the last of them that names its lookahead
abbrev pub condition : List (Acceptance × Option ℕ) → Acceptance × Option ℕ → Option Boundary
condition earlier (Conditional lookahead status, _) =
    option_map (λ (f : Boundary). boundary f.offset status) (last_step (naming lookahead) earlier)
condition earlier (_, _) = None

-- what the first condition that holds picks
unfoldable pub first_condition : List (Acceptance × Option ℕ) → List (Acceptance × Option ℕ) → Option Boundary
first_condition earlier [] = None
first_condition earlier (state ∷ states) =
    option_or (condition earlier state) (first_condition (earlier ++ state ∷ []) states)

-- the first condition that holds, or else the last acceptance
abbrev pub picked_step : List (Acceptance × Option ℕ) → Option Boundary
picked_step states = option_or (first_condition [] states) (last_step acceptance_status states)

-- the pick of a text's symbols: how many the segment takes (steps at the end take no more), and its status
unfoldable pub pick : Machine → List ℕ → Option Boundary
pick m symbols =
    option_map (λ (f : Boundary). boundary (min f.offset (length symbols)) f.status) (picked_step (map (state_at m) (scan m symbols)))

-- every text that isn't empty has a pick
abbrev pub IsStallFree : Machine → Type 0
IsStallFree m = (symbols : List ℕ) → symbols ≢ [] → All (IsTextSymbol m) symbols → IsSome (pick m symbols)

-- some text that isn't empty has no pick
abbrev pub HasStall : Machine → Type 0
HasStall m = (symbols : List ℕ) × (symbols ≢ []) × All (IsTextSymbol m) symbols × (pick m symbols ≡ None)

-- The segments of a text by a machine: from its start on, each is the pick of what is left.

-- the first stretch of some code points: up to their pick, which is its one boundary; all of them, and no boundary, where
-- they have no pick, as no text by a checked machine
unfoldable pub machine_stretch : Machine → List ℕ → Stretch
machine_stretch m code_points =
    option_map_or
    (λ (picked : Boundary). record { extent = picked.offset; boundaries = picked ∷ [] })
    (pick m (symbols_of m code_points)) (record { extent = length code_points; boundaries = [] })

-- the boundaries of a list of code points
abbrev pub machine_boundaries : Machine → List ℕ → List Boundary
machine_boundaries m code_points = list_boundaries (machine_stretch m) code_points

-- The pick of a text in its own words, over the states that its scan enters. Index i is that of step i + 1.

-- this step enters a state that accepts, with a status
pub record AcceptsAt (states : List (Acceptance × Option ℕ)) (i status : ℕ) : Type 0 where
  pub name : Option ℕ
  pub here : slice_get states i ≡ Some (Accept status, name)

-- this step enters a state that names a lookahead
pub record NamesAt (states : List (Acceptance × Option ℕ)) (j lookahead : ℕ) : Type 0 where
  pub acceptance : Acceptance
  pub here : slice_get states j ≡ Some (acceptance, Some lookahead)

-- this step enters a condition on a lookahead, with a status
pub record IsConditionAt (states : List (Acceptance × Option ℕ)) (i lookahead status : ℕ) : Type 0 where
  pub name : Option ℕ
  pub here : slice_get states i ≡ Some (Conditional lookahead status, name)

-- the condition of this step holds: an earlier step entered a state that names its lookahead
pub record HoldsAt (states : List (Acceptance × Option ℕ)) (i lookahead status : ℕ) : Type 0 where
  pub condition : IsConditionAt states i lookahead status
  pub j : ℕ
  pub earlier : j < i
  pub names : NamesAt states j lookahead

-- step i is the first whose condition holds, and step j the last earlier one that names its lookahead
pub record IsFirstHeld (states : List (Acceptance × Option ℕ)) (i j lookahead status : ℕ) : Type 0 where
  pub condition : IsConditionAt states i lookahead status
  pub earlier : j < i
  pub names : NamesAt states j lookahead
  pub last : (k : ℕ) → j < k → k < i → NamesAt states k lookahead → ⊥
  pub first : (k other with_status : ℕ) → k < i → HoldsAt states k other with_status → ⊥

-- no condition holds
abbrev pub NoneHolds : List (Acceptance × Option ℕ) → Type 0
NoneHolds states = (k lookahead status : ℕ) → HoldsAt states k lookahead status → ⊥

-- step i is the last that enters a state that accepts
pub record IsLastAccepted (states : List (Acceptance × Option ℕ)) (i status : ℕ) : Type 0 where
  pub accepts : AcceptsAt states i status
  pub last : (k other : ℕ) → i < k → AcceptsAt states k other → ⊥

-- a segment takes n symbols, of so many that there are (steps at the end take none), and has a status
abbrev pub IsPick : List (Acceptance × Option ℕ) → ℕ → ℕ → ℕ → Type 0
IsPick states symbols n status =
    ((i j lookahead : ℕ) × IsFirstHeld states i j lookahead status × (n ≡ min (suc j) symbols))
    ⊎ (NoneHolds states × ((i : ℕ) × IsLastAccepted states i status × (n ≡ min (suc i) symbols)))
