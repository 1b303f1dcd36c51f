-- The search for a text without a pick. It follows pairs of a state and a set of lookaheads: those that the
-- states up to here have naming. Bit k of a set's number is lookahead k.
use Rattle.std.specs.Prelude.{◌≡◌, ◌≢◌, ℕ, suc, ◌+◌, ◌*◌, ◌/◌, ◌%◌, ◌^◌, ◌<◌, ◌≤◌, ◌⊎◌, ◌==◌, Bool, true, false, if◌then◌else◌, Option, Some, None, List, [], ◌∷◌, ◌++◌, length, map, replicate, slice_index_or, IfSome, All, Contains}
use Rattle.std.specs.Int.{bit_at}
use Rattle.std.specs.Int.Bits.{bit_or}
use Rattle.std.specs.Option.{option_map_or}
use Rattle.seg_data.specs.Table.{table}
use Rattle.seg_machine.specs.declared.provider.Acceptance.{Acceptance}
use Rattle.seg_machine.specs.declared.provider.Acceptance.TheVariants.{Continue, Accept, Conditional}
use Rattle.seg_machine.specs.Machine.{Machine, machine, IsTextSymbol, symbol_count, step, run, state_at}
use Rattle.seg_machine.specs.MachineFaults.{NamesPast}

-- the machine of these states and transitions, with no code points' symbols
abbrev pub bare : List (Acceptance × Option ℕ) → List ℕ → Machine
bare states transitions = machine (table [] 0) states transitions 0 0 []

-- a state, and a set of lookaheads
abbrev pub Pair : Type 0
Pair = ℕ × ℕ

-- what the checks of numbers leave
pub record IsBounded (m : Machine) : Type 0 where
  pub some_state : 0 < length m.states
  pub few_states : length m.states ≤ 255
  pub some_symbol : 0 < symbol_count m
  pub in_range : (state symbol : ℕ) → state < length m.states → symbol < symbol_count m → IfSome (step m state symbol) (λ next. next < length m.states)
  pub lookaheads : (state : ℕ) → NamesPast 8 (state_at m state) → ⊥

-- is the lookahead in the set
abbrev pub has : ℕ → ℕ → Bool
has kept lookahead = bit_at kept lookahead == 1

-- the set, with the lookahead that a state names
abbrev pub keep : ℕ → Option ℕ → ℕ
keep kept (Some lookahead) = bit_or kept (2 ^ lookahead)
keep kept None = kept

-- does a state settle that there is a pick: it accepts, or its condition holds
abbrev pub is_pick : ℕ → Acceptance → Bool
is_pick kept Continue = false
is_pick kept (Accept status) = true
is_pick kept (Conditional lookahead status) = has kept lookahead

-- the set after a state that settles nothing
abbrev pub enter : ℕ → Acceptance × Option ℕ → Option ℕ
enter kept state = if is_pick kept state.0 then None else Some (keep kept state.1)

-- does one of the states settle that there is a pick
unfoldable pub settles : ℕ → List (Acceptance × Option ℕ) → Bool
settles kept [] = false
settles kept (state ∷ states) = option_map_or (λ after. settles after states) (enter kept state) true

-- do the symbols lead from this pair to a state that settles it
unfoldable pub is_settled : Machine → ℕ → ℕ → List ℕ → Bool
is_settled m state kept symbols = settles kept (map (state_at m) (run m state symbols))

-- does the end of the text lead there
abbrev pub is_settled_at_end : Machine → ℕ → ℕ → Bool
is_settled_at_end m state kept = is_settled m state kept (replicate (length m.states) 0)

-- symbols of a text lead to this pair: whatever follows them is settled just as it is from the pair
pub record Leads (m : Machine) (symbols : List ℕ) (state kept : ℕ) : Type 0 where
  pub text : All (IsTextSymbol m) symbols
  pub same : (more : List ℕ) → is_settled m 0 0 (symbols ++ more) ≡ is_settled m state kept more

-- a pair of a state and a set that some symbols, or none, lead to
pub record IsMet (m : Machine) (pair : Pair) : Type 0 where
  pub state : pair.0 < length m.states
  pub kept : pair.1 < 256
  pub symbols : List ℕ
  pub leads : Leads m symbols pair.0 pair.1

-- one that some symbols lead to
pub record IsReached (m : Machine) (pair : Pair) : Type 0 where
  pub met : IsMet m pair
  pub some : met.symbols ≢ []

-- the number of a pair's bit: each set has 256 bits, one for each state
abbrev pub bit_number : Pair → ℕ
bit_number pair = pair.1 * 256 + pair.0

-- the pair's bit is 1 in the words of 64 bits
pub record IsMarked (marks : List ℕ) (pair : Pair) : Type 0 where
  pub state : pair.0 < 255
  pub kept : pair.1 < 256
  pub bit : bit_at (slice_index_or marks (bit_number pair / 64) 0) (bit_number pair % 64) ≡ 1

-- each marked pair is reached
abbrev pub AreReached : Machine → List ℕ → Type 0
AreReached m marks = (pair : Pair) → IsMarked marks pair → IsReached m pair

-- each lookahead of the one set is in the other
abbrev pub IsSubset : ℕ → ℕ → Type 0
IsSubset set kept = (lookahead : ℕ) → has set lookahead ≡ true → has kept lookahead ≡ true

-- the state is marked with a smaller set, too
pub record IsBelow (marks : List ℕ) (state kept : ℕ) : Type 0 where
  pub set : ℕ
  pub subset : IsSubset set kept
  pub less : set < kept
  pub marked : IsMarked marks (state, set)

-- the states that are marked with a set, but for those that are marked with a smaller one, too
pub record IsQueue (marks queue : List ℕ) (kept : ℕ) : Type 0 where
  pub listed : (state : ℕ) → IsMarked marks (state, kept) → Contains queue state ⊎ IsBelow marks state kept
  pub marked : (state : ℕ) → Contains queue state → IsMarked marks (state, kept)

-- more pairs are marked, and none with a smaller set
pub record IsGrowth (before after : List ℕ) (kept : ℕ) : Type 0 where
  pub keeps : (pair : Pair) → IsMarked before pair → IsMarked after pair
  pub above : (pair : Pair) → IsMarked after pair → pair.1 < kept → IsMarked before pair

-- the symbol leads from the pair to a state that settles it, or to a marked pair
pub record IsFollowed (m : Machine) (marks : List ℕ) (state kept symbol : ℕ) : Type 0 where
  pub next : ℕ
  pub leads : step m state symbol ≡ Some next
  pub marked : IfSome (enter kept (state_at m next)) (λ after. IsMarked marks (next, after))

-- each symbol of a text does
abbrev pub AreFollowed : Machine → List ℕ → ℕ → ℕ → Type 0
AreFollowed m marks state kept = (symbol : ℕ) → symbol < symbol_count m → 0 < symbol → IsFollowed m marks state kept symbol

-- nothing is left to look at from the pair
pub record IsDone (m : Machine) (marks : List ℕ) (pair : Pair) : Type 0 where
  pub at_end : is_settled_at_end m pair.0 pair.1 ≡ true
  pub followed : AreFollowed m marks pair.0 pair.1

-- what a smaller set settles, the pair's does: nothing is left to look at from the same state with that one
pub record IsCovered (m : Machine) (marks : List ℕ) (pair : Pair) : Type 0 where
  pub set : ℕ
  pub subset : IsSubset set pair.1
  pub done : IsDone m marks (pair.0, set)

-- nor from the marked pairs with one of the first sets
abbrev pub AreDone : Machine → List ℕ → ℕ → Type 0
AreDone m marks sets = (pair : Pair) → IsMarked marks pair → pair.1 < sets → IsCovered m marks pair

-- how many are false
unfoldable pub free : List Bool → ℕ
free [] = 0
free (true ∷ known) = free known
free (false ∷ known) = suc (free known)

-- the table says of each state whether it is in the list
pub record IsTable (known : List Bool) (states : List ℕ) : Type 0 where
  pub room : length states + free known ≡ length known
  pub listed : (state : ℕ) → slice_index_or known state false ≡ true → Contains states state
