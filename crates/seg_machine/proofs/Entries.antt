-- What stands in the rows of a machine, and what an entry tells.
use Rattle.std.proofs.Common.{◌≡◌, ◌≢◌, ℕ, ◌+◌, ◌*◌, ◌/◌, ◌%◌, ◌<◌, Option, Some, None, List, [], ◌∷◌, ◌++◌, length, slice_index, IsSome, refl, ap, ◌∙◌, arith, subst, inl, inr}
use Rattle.std.proofs.lemmas.Bool.{cases_lt, lt-ltb}
use Rattle.std.proofs.lemmas.List.{get_or_append_left, get_or_push}
use Rattle.std.specs.Prelude.{IfSome}
use Rattle.std.specs.Option.{option_map_or}
use Rattle.seg_machine.specs.declared.provider.Acceptance.{Acceptance}
use Rattle.seg_machine.specs.declared.provider.Acceptance.TheVariants.{Continue, Accept, Conditional}
use Rattle.seg_machine.specs.Machine.{Machine, state_at, step, symbol_and_script, symbol_count}
use Rattle.seg_machine.specs.MachineFaults.{IsChecked}
use Rattle.seg_machine.specs.Pick.{acceptance_status}
use Rattle.seg_machine.specs.DenseRows.{AreRows, entry_after, entry_to, index_entry, place_entry, row_entry, slow}

-- what stands at a place of the row of a state
entry-in : (m : Machine) (entries : List ℕ) (row state place : ℕ) → AreRows m entries → row ≡ state * 256 → state < length m.states
    → place < 256 → slice_index entries (row + place) ≡ place_entry m (row / 256) place
entry-in m entries row state place rows is within below =
    let inside : row + place < length entries = omega (arith, rows.size) in
    let whole : (row + place) / 256 ≡ row / 256 = omega arith in
    let part : (row + place) % 256 ≡ place = omega arith in
    rows.stand (row + place) inside ∙ ap (λ (state : ℕ). place_entry m state ((row + place) % 256)) whole ∙ ap (place_entry m (row / 256)) part

pub entry-ascii : (m : Machine) (entries : List ℕ) (row state place : ℕ) → AreRows m entries → row ≡ state * 256 → state < length m.states
    → place < 128 → slice_index entries (row + place) ≡ row_entry m (row / 256) (symbol_and_script m place).0
entry-ascii m entries row state place rows is within below =
    entry-in m entries row state place rows is within (omega arith) ∙ rw (lt-ltb place 128 below) refl

-- one entry more
pub entries-more : (m : Machine) (entries new : List ℕ) (entry count : ℕ) → length entries ≡ count
    → ((index : ℕ) → index < count → slice_index entries index ≡ index_entry m index) → entry ≡ index_entry m count → new ≡ entries ++ entry ∷ []
    → (index : ℕ) → index < count + 1 → slice_index new index ≡ index_entry m index
entries-more m entries new entry count long before this is index within = rw is (elim (cases_lt index count) [
  | inl below ↦ get_or_append_left entries (entry ∷ []) 0 index (omega arith) ∙ before index below
  | inr past ↦ let here : index ≡ count = omega arith in rw here (get_or_push entries entry 0 count long ∙ this)
])

-- the state is no condition
abbrev pub IsUnconditional : Acceptance → Type 0
IsUnconditional (Conditional lookahead status) = ⊥
IsUnconditional (Accept status) = Unit {0}
IsUnconditional Continue = Unit {0}

-- by this symbol a state goes on to another, which is no condition
pub record GoesOn (m : Machine) (state symbol next : ℕ) : Type 0 where
  pub leads : step m state symbol ≡ Some next
  pub plain : IsUnconditional (state_at m next).0
  pub below : next < length m.states

-- a segment ends in this state before this symbol: it accepts, and goes on to none. START goes on to another by it
pub record EndsBefore (m : Machine) (state symbol next : ℕ) : Type 0 where
  pub stops : step m state symbol ≡ None
  pub accepts : IsSome (acceptance_status (state_at m state))
  pub begins : step m 0 symbol ≡ Some next
  pub below : next < length m.states

going : (acceptance : Acceptance) (next entry : ℕ) → entry ≡ entry_to acceptance next → entry ≢ slow → IsUnconditional acceptance × (entry ≡ next * 256)
going Continue next entry is fast = (tt, is)
going (Accept status) next entry is fast = (tt, is)
going (Conditional lookahead status) next entry is fast = absurd (fast is)

ending : (accepts begins : Option ℕ) (entry : ℕ) → entry ≡ entry_after accepts begins → entry ≢ slow
    → (next : ℕ) × IsSome accepts × (begins ≡ Some next) × (entry ≡ next * 256 + 1)
ending (Some status) (Some next) entry is fast = (next, refl, refl, is)
ending (Some status) None entry is fast = absurd (fast is)
ending None begins entry is fast = absurd (fast is)

pub in-range : (m : Machine) (state symbol next : ℕ) → IsChecked m → state < length m.states → symbol < symbol_count m → step m state symbol ≡ Some next → next < length m.states
in-range m state symbol next checked here below leads = subst (λ (found : Option ℕ). IfSome found (λ next. next < length m.states)) leads (checked.in_range state symbol here below)

pub goes-on : (m : Machine) (state symbol entry : ℕ) → IsChecked m → state < length m.states → symbol < symbol_count m
    → entry ≡ row_entry m state symbol → entry ≢ slow → entry % 2 ≡ 0 → GoesOn m state symbol (entry / 256)
unfolding row_entry
goes-on m state symbol entry checked here below is fast even = on (step m state symbol) refl is
  where
    on : (found : Option ℕ) → step m state symbol ≡ found
        → entry ≡ option_map_or {T = ℕ} {U = ℕ} (λ next. entry_to (state_at m next).0 next) found (entry_after (acceptance_status (state_at m state)) (step m 0 symbol))
        → GoesOn m state symbol (entry / 256)
    on None stops is = let end = ending (acceptance_status (state_at m state)) (step m 0 symbol) entry is fast in absurd (omega (arith, even, end.3))
    on (Some next) leads is =
        let to = going (state_at m next).0 next entry is fast in
        let same : next ≡ entry / 256 = omega (arith, to.1) in
        subst (λ (next : ℕ). GoesOn m state symbol next) same
        (record { leads = leads; plain = to.0; below = in-range m state symbol next checked here below leads })

pub ends-before : (m : Machine) (state symbol entry : ℕ) → IsChecked m → symbol < symbol_count m
    → entry ≡ row_entry m state symbol → entry ≢ slow → entry % 2 ≡ 1 → EndsBefore m state symbol (entry / 256)
unfolding row_entry
ends-before m state symbol entry checked below is fast odd = on (step m state symbol) refl is
  where
    on : (found : Option ℕ) → step m state symbol ≡ found
        → entry ≡ option_map_or {T = ℕ} {U = ℕ} (λ next. entry_to (state_at m next).0 next) found (entry_after (acceptance_status (state_at m state)) (step m 0 symbol))
        → EndsBefore m state symbol (entry / 256)
    on (Some next) leads is = let to = going (state_at m next).0 next entry is fast in absurd (omega (arith, odd, to.1))
    on None stops is =
        let end = ending (acceptance_status (state_at m state)) (step m 0 symbol) entry is fast in
        let same : end.0 ≡ entry / 256 = omega (arith, end.3) in
        subst (λ (next : ℕ). EndsBefore m state symbol next) same
        (record { stops = stops; accepts = end.1; begins = end.2; below = in-range m 0 symbol end.0 checked checked.some_state below end.2 })
