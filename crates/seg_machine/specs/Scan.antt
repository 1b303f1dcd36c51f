-- What a scan keeps as it reads a text.
use Rattle.std.specs.Prelude.{◌≡◌, ℕ, ◌<◌, ◌≤◌, Option, Some, None, List, [], ◌∷◌, ◌++◌, map, length, replicate, slice_set, slice_index, slice_index_or, ◌+◌, ◌*◌, ◌/◌, ◌%◌, ◌==◌, if◌then◌else◌}
use Rattle.std.specs.Option.{option_map, option_map_or, option_or}
use Rattle.seg_text.specs.declared.boundary.Boundary.{Boundary}
use Rattle.seg_text.specs.Boundaries.{boundary, boundary_in}
use Rattle.seg_text.specs.Items.{Text, code_points, start_of, rest_after}
use Rattle.seg_machine.specs.Machine.{Machine, symbols_of, symbol_count, step, run, scan, state_at}
use Rattle.seg_machine.specs.declared.provider.Acceptance.{Acceptance}
use Rattle.seg_machine.specs.declared.provider.Acceptance.TheVariants.{Conditional, Continue, Accept}
use Rattle.seg_machine.specs.Pick.{acceptance_status, naming, last_step, first_condition, pick}

-- the states that are still to come, from a state and what is left of the text
abbrev pub future : Machine → ℕ → Text → List ℕ
future m state left = run m state (symbols_of m (code_points left.items) ++ replicate (length m.states) 0)

-- the states of a scan, as what they accept and name
abbrev pub entries : Machine → List ℕ → List (Acceptance × Option ℕ)
entries m states = map (state_at m) states

-- the place that is kept for a lookahead, if there is one
abbrev pub place_for : List (Option ℕ) → ℕ → Option ℕ
place_for kept lookahead = slice_index_or kept lookahead None

-- where the segment ends by the condition of a state, if it holds: at the place kept for its lookahead
unfoldable pub condition_end : List (Option ℕ) → Acceptance × Option ℕ → Option Boundary
condition_end kept (Conditional lookahead status, _) = option_map (λ place. boundary place status) (place_for kept lookahead)
condition_end kept (_, _) = None

-- the acceptance of a state that is entered at a place
abbrev pub acceptance_at : ℕ → Acceptance × Option ℕ → Option Boundary
acceptance_at place state = option_map (λ status. boundary place status) (acceptance_status state)

-- the last acceptance, once a state is entered at a place
unfoldable pub acceptance_after : ℕ → Acceptance × Option ℕ → Option Boundary → Option Boundary
acceptance_after place state last = option_or (acceptance_at place state) last

-- the places kept, once a state is entered at a place
unfoldable pub places_after : ℕ → Acceptance × Option ℕ → List (Option ℕ) → List (Option ℕ)
places_after place (_, Some lookahead) kept = slice_set kept lookahead (Some place)
places_after place (_, None) kept = kept

-- what is kept of the states that were entered, as places: for each lookahead the last that naming it, and the
-- last acceptance with its status
pub record Remembered
    (text : Text) (entered : List (Acceptance × Option ℕ))
    (kept : List (Option ℕ)) (last : Option Boundary) : Type 0 where
  pub places :
      (lookahead : ℕ) → lookahead < length kept
      → place_for kept lookahead ≡ option_map (λ (f : Boundary). start_of (rest_after f.offset text)) (last_step (naming lookahead) entered)
  pub accepted_last : last ≡ option_map (boundary_in text) (last_step acceptance_status entered)

-- the scan of a text, where it has entered some states: what is left of the text, the state that it is in, and
-- what it remembers of those states; no condition of theirs condition_end
pub record Scanned
    (m : Machine) (text : Text) (state : ℕ) (left : Text)
    (kept : List (Option ℕ)) (last : Option Boundary) : Type 0 where
  pub entered : List ℕ
  pub whole : scan m (symbols_of m (code_points text.items)) ≡ entered ++ future m state left
  pub rest : left ≡ rest_after (length entered) text
  pub in_range : state < length m.states
  pub none_held :
      first_condition [] (entries m (scan m (symbols_of m (code_points text.items))))
      ≡ first_condition (entries m entered) (entries m (future m state left))
  pub size : m.num_lookaheads ≤ length kept
  pub remembered : Remembered text (entries m entered) kept last

-- the symbol of a text's first item, or that of the end, and what is left after that item: what is to come from any state
-- begins with the step on it
pub record IsSymbolAhead (m : Machine) (text : Text) (symbol : ℕ) (after : Text) : Type 0 where
  pub below : symbol < symbol_count m
  pub begins :
      (state : ℕ) → state < length m.states
      → future m state text ≡ option_map_or {T = ℕ} {U = List ℕ} (λ next. next ∷ future m next after) (step m state symbol) []
  pub left : after ≡ rest_after 1 text

-- the boundary, by its place, is what the machine picks of a text
abbrev pub IsPicked : Machine → Text → Boundary → Type 0
IsPicked m text found = Some found ≡ option_map (boundary_in text) (pick m (symbols_of m (code_points text.items)))

-- a text begins with the segment that the machine picks, with this status, and this is left after it
abbrev pub IsSegment : Machine → Text → Text → ℕ → Type 0
IsSegment m text left status =
    (p : Boundary) × (pick m (symbols_of m (code_points text.items)) ≡ Some p) × (status ≡ p.status) × (left ≡ rest_after p.offset text)

-- What states do to a scan, in a byte each, their marks.

-- a mark below 254 says that the state accepts with this status, and 254 that it doesn't accept, both without naming a
-- lookahead; 255 says nothing
abbrev pub IsMark : Acceptance × Option ℕ → ℕ → Type 0
IsMark state mark = (mark < 254 → state ≡ (Accept mark, None)) × (mark ≡ 254 → state ≡ (Continue, None))

-- each state has its mark
abbrev pub AreMarks : List (Acceptance × Option ℕ) → List ℕ → Type 0
AreMarks states marks = (state : ℕ) → state < length states → IsMark (slice_index_or states state (Continue, None)) (slice_index marks state)

-- What states accept, as bytes: a condition's lookahead or 31 in the high five bits, a status in the low three.

-- what a byte means
abbrev pub acceptance_of : ℕ → Acceptance
acceptance_of byte =
    if byte / 8 == 31
    then (if byte % 8 == 7 then Continue else Accept (byte % 8))
    else Conditional (byte / 8) (byte % 8)

-- the byte that means it
abbrev pub byte_of : Acceptance → ℕ
byte_of Continue = 255
byte_of (Accept status) = 248 + status
byte_of (Conditional lookahead status) = lookahead * 8 + status

-- a byte means it
abbrev pub HasByte : Acceptance → Type 0
HasByte Continue = Unit {0}
HasByte (Accept status) = status < 7
HasByte (Conditional lookahead status) = (lookahead < 31) × (status < 8)
