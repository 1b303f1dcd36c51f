-- A walk through the states of a pair table: what its entries name, and what the last of a kind leaves.
use Rattle.std.specs.Prelude.{ℕ, suc, ◌+◌, nat_le, ◌||◌, Bool, true, Option, List, [], ◌∷◌, length, reverse, find}
use Rattle.std.specs.Option.{option_map_or}
use Rattle.seg_pairs.specs.declared.provider.pairs.BreakState.{BreakState}
use Rattle.seg_pairs.specs.PairTable.{named_state, is_intermediate, PairTable, entry_of}

-- an entry of a walk that names a state: which element it stands before, counted from 0, the state that the walk was
-- in, the entry of this state and the element's class, and the state that it names
pub record Naming : Type 0 where
  pub before : ℕ
  pub state : ℕ
  pub entry : BreakState
  pub next : ℕ

-- the entries of a walk that name a state, up to the first that names none, from a state and the classes of the
-- elements from this number on
unfoldable pub namings : PairTable → ℕ → ℕ → List ℕ → List Naming
namings t number state [] = []
namings t number state (class ∷ classes) =
    option_map_or
    (λ next. record { before = number; state = state; entry = entry_of t state class; next = next } ∷ namings t (suc number) next classes)
    (named_state (entry_of t state class)) []

-- a state that is a class of code points, and no composite
abbrev pub is_class : PairTable → ℕ → Bool
is_class t state = nat_le state t.last_codepoint_property

abbrev pub leaves_class : PairTable → Naming → Bool
leaves_class t naming = is_class t naming.state

-- the place is saved: before an Intermediate, and where an Index leaves a class
abbrev pub saves : PairTable → Naming → Bool
saves t naming = is_intermediate naming.entry || leaves_class t naming

-- the last of a kind
abbrev pub last_where : {X : Type 0} → (X → Bool) → List X → Option X
last_where is xs = find is (reverse xs)

-- what the last of a kind has, or else this
abbrev pub last_or : (Naming → Bool) → (Naming → ℕ) → List Naming → ℕ → ℕ
last_or is has namings otherwise = option_map_or has (last_where is namings) otherwise

-- where a walk ends: the state that it is in, the number of the element before which it stops, the number of the
-- element before which it was saved last, and the class that was saved last
pub record Walk : Type 0 where
  pub state : ℕ
  pub stop : ℕ
  pub saved : ℕ
  pub class : ℕ

-- the walk from a state, before the element with this number, where this number and this class were saved before
unfoldable pub walk : PairTable → ℕ → ℕ → ℕ → ℕ → List ℕ → Walk
walk t state number saved class classes =
    let taken = namings t number state classes in
    record {
      state = last_or (λ n. true) (λ n. n.next) taken state;
      stop = number + length taken;
      saved = last_or (saves t) (λ n. n.before) taken saved;
      class = last_or (leaves_class t) (λ n. n.next) taken class;
    }
