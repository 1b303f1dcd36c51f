-- Configurations of scans, those that a scan looks up, and how many different ones there are.
use Rattle.std.specs.Prelude.{◌≡◌, ℕ, suc, ◌+◌, ◌*◌, ◌^◌, ◌<◌, ◌==◌, ◌&&◌, ◌||◌, Bool, false, if◌then◌else◌, Option, Some, None, List, [], ◌∷◌, ◌++◌, drop, min, length, replicate, map, slice_index_or}
use Rattle.std.specs.Option.{option_map_or}
pub use Rattle.seg_text.specs.declared.boundary.Boundary.{Boundary}
use Rattle.seg_text.specs.Boundaries.{boundary}
use Rattle.seg_machine.specs.Machine.{Machine, run, state_at, step}
use Rattle.seg_machine.specs.Pick.{pick}
use Rattle.seg_machine.specs.Search.{has, keep}
pub use Rattle.seg_machine.specs.declared.provider.Acceptance.{Acceptance}
pub use Rattle.seg_machine.specs.declared.provider.Acceptance.TheVariants.{Conditional, Continue, Accept}
pub use Rattle.seg_memo.specs.declared.configuration.Configuration.{Configuration}
pub use Rattle.seg_memo.specs.declared.configuration.Outcome.{Outcome}
pub use Rattle.seg_memo.specs.declared.configuration.Outcome.TheVariants.{Nothing, Picked, Kept}
pub use Rattle.seg_memo.specs.declared.configuration.LookUp.{LookUp}
pub use Rattle.seg_memo.specs.declared.configuration.LookUp.TheVariants.{Ends, Leads}

abbrev pub configuration : ℕ → ℕ → ℕ → Configuration
configuration state place kept = record { state = state; place = place; kept = kept }

-- where the scan of a segment begins
abbrev pub start_at : ℕ → Configuration
start_at place = configuration 0 place 0

-- a machine, and the symbols of a whole text
pub record Subject : Type 0 where
  pub machine : Machine
  pub symbols : List ℕ

abbrev pub subject : Machine → List ℕ → Subject
subject m symbols = record { machine = m; symbols = symbols }

-- the place up to which a segment's end is known: that of the last acceptance, or else the first
abbrev pub floor : ℕ → Option Boundary → ℕ
floor first None = first
floor first (Some b) = b.offset

-- the machine with the transitions of a reader in the place of its own
abbrev pub reading : Machine → List ℕ → Machine
reading m transitions = record m { transitions = transitions }

-- so many configurations a text of so many items has at most: a state, a set of lookaheads and a place
abbrev pub configurations : Machine → ℕ → ℕ
configurations m items = length m.states * 2 ^ m.num_lookaheads * (items + 1)

-- the states that are to come after a configuration
unfoldable pub following : Subject → Configuration → List ℕ
following s c = run s.machine c.state (drop c.place s.symbols ++ replicate (length s.machine.states) 0)

-- does a condition of the state hold, where the lookaheads of a set were named: its lookahead and status
abbrev pub condition_held : ℕ → Acceptance × Option ℕ → Option (ℕ × ℕ)
condition_held kept (Conditional lookahead status, _) = if has kept lookahead then Some (lookahead, status) else None
condition_held kept (_, _) = None

-- the configuration where a state is entered from another
abbrev pub entering : Subject → Configuration → ℕ → Configuration
entering s c state =
    configuration state (min (suc c.place) (length s.symbols)) (keep c.kept (state_at s.machine state).1)

-- what a scan looks up from a configuration on, whose states to come are these: each, up to that which no state comes
-- after, or only one whose condition holds
unfoldable pub look_ups_on : Subject → Configuration → List ℕ → List Configuration
look_ups_on s c [] = c ∷ []
look_ups_on s c (state ∷ states) =
    c ∷ option_map_or {T = ℕ × ℕ} {U = List Configuration} (λ held. [])
    (condition_held c.kept (state_at s.machine state)) (look_ups_on s (entering s c state) states)

unfoldable pub look_ups : Subject → Configuration → List Configuration
look_ups s c = look_ups_on s c (following s c)

-- all that the scans look up which begin at these places
unfoldable pub all_look_ups : Subject → List ℕ → List Configuration
all_look_ups s [] = []
all_look_ups s (start ∷ starts) = look_ups s (start_at start) ++ all_look_ups s starts

-- the segments up to a place begin at these places, the last of them first: each has some symbols, and ends with the pick
-- of what is left of the text where it begins
abbrev pub AreStarts : Subject → List ℕ → ℕ → Type 0
AreStarts s [] place = place ≡ 0
AreStarts s (start ∷ starts) place =
    ((p : Boundary) × (pick s.machine (drop start s.symbols) ≡ Some p) × (place ≡ start + p.offset))
    × (start < place)
    × AreStarts s starts start

abbrev pub is_same : Configuration → Configuration → Bool
is_same c d = c.state == d.state && (c.place == d.place && c.kept == d.kept)

-- is a configuration in a list
unfoldable pub is_in : Configuration → List Configuration → Bool
is_in c [] = false
is_in c (d ∷ ds) = is_same d c || is_in c ds

-- how many different configurations are in a list
unfoldable pub different : List Configuration → ℕ
different [] = 0
different (c ∷ cs) = if is_in c cs then different cs else suc (different cs)

-- so many different configurations were looked up by the scans of the segments up to a place
abbrev pub AreLookedUp : Subject → ℕ → ℕ → Type 0
AreLookedUp s place count = (starts : List ℕ) × AreStarts s starts place × (count ≡ different (all_look_ups s starts))

-- What a scan finds from a configuration on: a function of the set of lookaheads that were named before it, and of
-- the states that come after it. It knows nothing of where the scan began.

-- the outcome before a state that is entered at a place, from that after it
abbrev pub entered : ℕ → Acceptance × Option ℕ → Outcome → Outcome
entered place (Accept status, _) Nothing = Picked (boundary place status)
entered place (Continue, _) Nothing = Nothing
entered place (Conditional lookahead status, _) Nothing = Nothing
entered place (_, Some name) (Kept lookahead status) = if name == lookahead then Picked (boundary place status) else Kept lookahead status
entered place (_, None) (Kept lookahead status) = Kept lookahead status
entered place _ (Picked later) = Picked later

-- the outcome of what comes after the last acceptance, or else that acceptance
abbrev pub later : Option Boundary → Outcome → Outcome
later None o = o
later (Some b) Nothing = Picked b
later (Some b) (Picked found) = Picked found
later (Some b) (Kept lookahead status) = Kept lookahead status

-- the outcome with another place
abbrev pub at : (ℕ → ℕ) → Outcome → Outcome
at move Nothing = Nothing
at move (Picked found) = Picked (boundary (move found.offset) found.status)
at move (Kept lookahead status) = Kept lookahead status

-- the outcome, its place in steps: of the lookaheads that were named before, and the states that come
unfoldable pub outcome : ℕ → List (Acceptance × Option ℕ) → Outcome
outcome kept [] = Nothing
outcome kept (state ∷ states) =
    option_map_or (λ (held : ℕ × ℕ). Kept held.0 held.1) (condition_held kept state)
    (entered 1 state (at suc (outcome (keep kept state.1) states)))

-- the outcome of a configuration of a text
unfoldable pub outcome_at : Subject → Configuration → Outcome
outcome_at s c =
    at (λ steps. min (c.place + steps) (length s.symbols)) (outcome c.kept (map (state_at s.machine) (following s c)))

-- the pick that an outcome means, where no lookahead was named before
abbrev pub picked : Outcome → Option Boundary
picked (Picked found) = Some found
picked _ = None

-- what comes of it that a scan enters a state at a place, where the lookaheads of a set were named before
abbrev pub arrival : Acceptance × Option ℕ → ℕ → ℕ → ℕ → LookUp
arrival entry state place kept =
    option_map_or (λ (held : ℕ × ℕ). Ends (Kept held.0 held.1)) (condition_held kept entry)
    (Leads (configuration state place (keep kept entry.1)))

-- what one look-up gives
unfoldable pub look_up : Subject → Configuration → LookUp
look_up s c =
    option_map_or (λ next. arrival (state_at s.machine next) next (min (suc c.place) (length s.symbols)) c.kept)
    (step s.machine c.state (slice_index_or s.symbols c.place 0)) (Ends Nothing)

abbrev pub IfLeads : LookUp → (Configuration → Type 0) → Type 0
IfLeads (Leads next) P = P next
IfLeads (Ends _) P = Unit {0}

-- Texts of so many letters, of one symbol each, by a small machine.

-- the scans of all segments of so many letters look up so many different configurations
abbrev pub LooksUp : Machine → ℕ → ℕ → Type 0
LooksUp m letters count = AreLookedUp (subject m (replicate letters 1)) letters count
