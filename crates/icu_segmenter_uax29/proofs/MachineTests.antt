-- A machine whose parts pass computed tests has no fault and is checked, so nothing but a lack of memory refuses it.
use Rattle.std.proofs.Common.{◌≡◌, ℕ, zero, suc, ◌+◌, ◌-◌, ◌*◌, ◌/◌, ◌%◌, ◌<◌, ◌≤◌, ◌⊎◌, Bool, true, false, not, ◌&&◌, ◌||◌, ◌==◌, nat_lt, List, [], ◌∷◌, length, get_or, map, replicate, ◌++◌, Option, Some, None, unwrap_or, refl, sym, ap, subst, ◌∙◌, arith, inl, inr, lt-ltb}
use Rattle.std.specs.List.{All}
use Rattle.std.specs.Prelude.{Result, Ok, Err, IfErr, IfSome, min}
use Rattle.std.specs.Option.{is_some, option_and_then, option_map, option_map_or, option_or}
use Rattle.std.proofs.lemmas.Bool.{and_parts, cond-true, cond-false, ltb-true}
use Rattle.std.proofs.lemmas.List.Elements.{All-head, All-tail}
use Rattle.ucd_table.proofs.TrieCheck.{all_below, all_below-at}
use Rattle.std.proofs.lemmas.Nat.{mul-le}
use Rattle.seg_data.specs.declared.provider.DataError.{DataError}
use Rattle.seg_data.specs.declared.provider.DataError.TheVariants.{Memory, StateCount, TransitionSize, TransitionOutOfRange, SymbolOutOfRange, TooManyLookaheads, LookaheadOutOfRange, EndCycle, Stalls}
use Rattle.seg_data.specs.declared.provider.ComplexScript.{ComplexScript}
use Rattle.seg_data.specs.Faults.{HasRangeFault}
use Rattle.seg_data.specs.Table.{named_values}
use Rattle.seg_text.specs.declared.boundary.Boundary.{Boundary}
use Rattle.seg_text.specs.Boundaries.{boundary}
use Rattle.seg_machine.specs.declared.provider.Acceptance.TheVariants.{Continue, Accept, Conditional}
use Rattle.seg_machine.specs.Machine.{IsSymbolOf, Machine, run, scan, state_after_ends, state_at, step, symbol_count}
use Rattle.seg_machine.specs.MachineFaults.{HasMachineFault, HasTextSymbols, IsChecked, IsStray, NamesPast}
use Rattle.seg_machine.specs.Pick.{HasStall, acceptance_status, first_condition, last_step, later, pick, picked_step}
use Rattle.seg_machine.proofs.Bare.{stall_free-from}
use Rattle.icu_segmenter_uax29.proofs.Faultless.{is_next, is_range, is_symbol, next-state, no-range-fault, rises}
use Rattle.icu_segmenter_uax29.proofs.Lists.{any-passes, bool-cases, every, every-at, none-from, option-cases}
use Rattle.icu_segmenter_uax29.proofs.RangeSymbols.{Entry}
use Rattle.icu_segmenter_uax29.proofs.Tests.{either, implied, implies, not-true}
use Rattle.icu_segmenter_uax29.proofs.Cells.{cell-at, cells, column-of, row-of}

-- a value is the symbol of a text, or means an entry of the map
abbrev is_value : ℕ → ℕ → ℕ → ℕ → Bool
is_value symbols shift entries value = nat_lt value (shift + entries) && implies (nat_lt value shift) (is_symbol symbols value)

-- an entry of the map gives the symbol of a text
abbrev is_entry : ℕ → ℕ × ComplexScript → Bool
is_entry symbols entry = is_symbol symbols entry.0

-- a state names, and asks for, lookaheads that there are
abbrev is_state : ℕ → Entry → Bool
is_state lookaheads (Continue, None) = true
is_state lookaheads (Continue, Some name) = nat_lt name lookaheads
is_state lookaheads (Accept status, None) = true
is_state lookaheads (Accept status, Some name) = nat_lt name lookaheads
is_state lookaheads (Conditional lookahead status, None) = nat_lt lookahead lookaheads
is_state lookaheads (Conditional lookahead status, Some name) = nat_lt lookahead lookaheads && nat_lt name lookaheads

-- a transition leads to a state that accepts
abbrev accepts : Machine → ℕ → Bool
accepts m next = not (next == 255) && is_some (acceptance_status (state_at m next))

abbrev waits_in : List Bool → ℕ → Bool
waits_in waits state = get_or waits state false

-- a transition from where nothing was accepted leads to where something is, or still waits; that by the end to where something is
abbrev leads : Machine → List Bool → ℕ → ℕ → ℕ → Bool
leads m waits zero state next = implies (waits_in waits state) (accepts m next)
leads m waits (suc symbol) state next = implies (state == 0 || waits_in waits state) (accepts m next || (not (next == 255) && waits_in waits next))

abbrev goes_on : Machine → ℕ → List Bool → ℕ → ℕ → Bool
goes_on m count waits k next = leads m waits (k / count) (k % count) next

-- the end of the text leads to no state, or to one from which it leads to none
abbrev ends_soon : Machine → ℕ → Bool
ends_soon m state = option_map_or (λ t. not (is_some (step m t 0))) (step m state 0) true

-- what is computed of a machine with so many states, this last symbol, and these states in which a scan waits
pub record IsSound (m : Machine) (count last : ℕ) (waits : List Bool) : Type 0 where
  pub ranges_are : every is_range m.symbols.ranges ≡ true
  pub ranges_rise : rises m.symbols.ranges ≡ true
  pub values_are : every (is_value (suc last) m.pseudo_symbol_shift (length m.pseudo_symbol_map)) (named_values m.symbols) ≡ true
  pub entries_are : every (is_entry (suc last)) m.pseudo_symbol_map ≡ true
  pub nothing_replaced : m.symbol_map ≡ []
  pub nexts_are : every (is_next count) m.transitions ≡ true
  pub states_are : every (is_state m.num_lookaheads) m.states ≡ true
  pub state_count : length m.states ≡ count
  pub some_states : 2 ≤ count
  pub few_states : count ≤ 255
  pub size : length m.transitions ≡ length m.states * suc last
  pub few_symbols : last ≤ 255
  pub symbols_are : symbol_count m ≡ suc last
  pub few_lookaheads : m.num_lookaheads ≤ 8
  pub goes : cells (goes_on m count waits) 0 m.transitions ≡ true
  pub ends_are : all_below (ends_soon m) count ≡ true

-- ---- the end of the text goes round in no cycle

none-after : (m : Machine) (state other steps : ℕ) → step m state 0 ≡ None → state_after_ends m state (suc steps) ≡ Some other → ⊥
unfolding state_after_ends
none-after m state other steps none back =
    let no : None ≡ Some other = sym (ap (λ next. option_and_then (λ next. state_after_ends m next steps) next) none) ∙ back in cc

not-back : (m : Machine) (state t steps : ℕ) → step m state 0 ≡ Some t → step m t 0 ≡ None → state_after_ends m t steps ≡ Some state → ⊥
unfolding state_after_ends
not-back m state t zero leads none back =
    let is : t ≡ state = ap (λ next. unwrap_or next t) back in
    let no : None ≡ Some t = sym none ∙ ap (λ q. step m q 0) is ∙ leads in cc
not-back m state t (suc steps) leads none back = none-after m t state steps none back

after-first : (m : Machine) (state t steps : ℕ) → step m state 0 ≡ Some t → state_after_ends m state (suc steps) ≡ Some state → state_after_ends m t steps ≡ Some state
unfolding state_after_ends
after-first m state t steps leads back = sym (ap (λ next. option_and_then (λ next. state_after_ends m next steps) next) leads) ∙ back

ends-none : (m : Machine) (state t : ℕ) → ends_soon m state ≡ true → step m state 0 ≡ Some t → step m t 0 ≡ None
ends-none m state t soon leads =
    none-from (step m t 0) (ap (λ next. option_map_or (λ t. not (is_some (step m t 0))) next true) (sym leads) ∙ soon)

no-cycle : (m : Machine) (state steps : ℕ) → ends_soon m state ≡ true → state_after_ends m state (suc steps) ≡ Some state → ⊥
no-cycle m state steps soon back =
    elim (option-cases (step m state 0)) [
      | inl none ↦ none-after m state state steps none back
      | inr (t, leads) ↦ not-back m state t steps leads (ends-none m state t soon leads) (after-first m state t steps leads back)
    ]

run-none : (m : Machine) (state symbol : ℕ) (symbols : List ℕ) → step m state symbol ≡ None → run m state (symbol ∷ symbols) ≡ []
unfolding run
run-none m state symbol symbols none = ap (λ next. option_map_or (λ next. next ∷ run m next symbols) next []) none

run-some : (m : Machine) (state symbol t : ℕ) (symbols : List ℕ) → step m state symbol ≡ Some t → run m state (symbol ∷ symbols) ≡ t ∷ run m t symbols
unfolding run
run-some m state symbol t symbols leads = ap (λ next. option_map_or (λ next. next ∷ run m next symbols) next []) leads

-- so it leads on once at most
few-ends : (m : Machine) (state more : ℕ) → ends_soon m state ≡ true → length (run m state (replicate (suc (suc more)) 0)) < 2
few-ends m state more soon =
    elim (option-cases (step m state 0)) [
      | inl none ↦ let empty = ap length (run-none m state 0 (replicate (suc more) 0) none) in omega (arith, empty)
      | inr (t, leads) ↦
          let one = ap length (run-some m state 0 t (replicate (suc more) 0) leads ∙ ap (λ states. t ∷ states) (run-none m t 0 (replicate more 0) (ends-none m state t soon leads))) in
          omega (arith, one)
    ]

-- ---- each text has a pick

some-or : {X : Type 0} (a b : Option X) → is_some b ≡ true → is_some (option_or a b) ≡ true
some-or None b is = is
some-or (Some x) b is = refl

some-or-first : {X : Type 0} (a b : Option X) → is_some a ≡ true → is_some (option_or a b) ≡ true
some-or-first None b is = cc
some-or-first (Some x) b is = refl

some-map : {X Y : Type 0} (f : X → Y) (a : Option X) → is_some a ≡ true → is_some (option_map f a) ≡ true
some-map f None is = is
some-map f (Some x) is = refl

-- some state accepts
abbrev accepted : Machine → List ℕ → Bool
accepted m states = is_some (last_step acceptance_status (map (state_at m) states))

accepted-here : (m : Machine) (t : ℕ) (states : List ℕ) → is_some (acceptance_status (state_at m t)) ≡ true → accepted m (t ∷ states) ≡ true
unfolding last_step
accepted-here m t states is =
    some-or (later (last_step acceptance_status (map (state_at m) states))) (option_map (λ v. boundary 1 v) (acceptance_status (state_at m t)))
    (some-map (λ v. boundary 1 v) (acceptance_status (state_at m t)) is)

accepted-later : (m : Machine) (t : ℕ) (states : List ℕ) → accepted m states ≡ true → accepted m (t ∷ states) ≡ true
unfolding last_step
accepted-later m t states is =
    some-or-first (later (last_step acceptance_status (map (state_at m) states))) (option_map (λ v. boundary 1 v) (acceptance_status (state_at m t)))
    (some-map (λ (f : Boundary). boundary (suc f.offset) f.status) (last_step acceptance_status (map (state_at m) states)) is)

or-second : (a b : Bool) → b ≡ true → (a || b) ≡ true
or-second true b is = refl
or-second false b is = is

module _ (m : Machine) (count last : ℕ) (waits : List Bool) (is : IsSound m count last waits) where
  abbrev transition : ℕ → ℕ → ℕ
  transition q x = get_or m.transitions (q + x * length m.states) 0

  within : (q x : ℕ) → q < count → x < suc last → q + x * length m.states < length m.transitions
  within q x below small =
      let states = is.state_count in
      let size = is.size in
      let rows : suc x * length m.states ≤ suc last * length m.states = mul-le (suc x) (length m.states) (suc last) (length m.states) (omega (arith, small)) (omega arith) in
      omega (arith, states, size, rows, below)

  goes-at : (q x : ℕ) → q < count → x < suc last → leads m waits x q (transition q x) ≡ true
  goes-at q x below small =
      let next = transition q x in
      let k = q + x * length m.states in
      let at : k ≡ q + x * count = ap (λ n. q + x * n) is.state_count in
      let row : k / count ≡ x = ap (λ k. k / count) at ∙ row-of q x count below in
      let column : k % count ≡ q = ap (λ k. k % count) at ∙ column-of q x count below in
      (λ i. leads m waits (sym row i) (sym column i) next) ∙ cell-at (goes_on m count waits) k m.transitions is.goes (within q x below small)

  step-to : (q x : ℕ) → (transition q x == 255) ≡ false → step m q x ≡ Some (transition q x)
  unfolding step
  step-to q x some = cond-false (transition q x == 255) None (Some (transition q x)) some

  some-states : 0 < count
  some-states = let some = is.some_states in omega (arith, some)

  next-below : (q x : ℕ) → (transition q x == 255) ≡ false → transition q x < count
  next-below q x some =
      elim (either (transition q x == 255) (nat_lt (transition q x) count)
      (every-at (is_next count) m.transitions (q + x * length m.states) 0 is.nexts_are (lt-ltb 0 count some-states))) [
        | inl none ↦ let no : true ≡ false = sym none ∙ some in cc
        | inr below ↦ ltb-true _ _ below
      ]

  not-none : (next : ℕ) → not (next == 255) ≡ true → (next == 255) ≡ false
  not-none next some = not-true (next == 255) some

  accepted-at : (q x : ℕ) (rest : List ℕ) → accepts m (transition q x) ≡ true → accepted m (run m q (x ∷ rest)) ≡ true
  accepted-at q x rest accepts =
      let parts = and_parts (not (transition q x == 255)) _ accepts in
      subst (λ states. accepted m states ≡ true) (sym (run-some m q x (transition q x) rest (step-to q x (not-none _ parts.0))))
      (accepted-here m (transition q x) (run m (transition q x) rest) parts.1)

  advance : (q x : ℕ) (rest : List ℕ) → q < count → IsSymbolOf (suc last) x → (q == 0 || waits_in waits q) ≡ true
      → ((t : ℕ) → t < count → waits_in waits t ≡ true → accepted m (run m t rest) ≡ true) → accepted m (run m q (x ∷ rest)) ≡ true
  advance q zero rest below (some, small) waiting further = absurd (omega (arith, some))
  advance q (suc x) rest below (some, small) waiting further =
      let t = transition q (suc x) in
      elim (either (accepts m t) _ (implied (q == 0 || waits_in waits q) _ (goes-at q (suc x) below small) waiting)) [
        | inl here ↦ accepted-at q (suc x) rest here
        | inr later ↦
            let parts = and_parts (not (t == 255)) _ later in
            let leads = not-none t parts.0 in
            subst (λ states. accepted m states ≡ true) (sym (run-some m q (suc x) t rest (step-to q (suc x) leads)))
            (accepted-later m t (run m t rest) (further t (next-below q (suc x) leads) parts.1))
      ]

  from-waiting : (symbols : List ℕ) (more q : ℕ) → q < count → waits_in waits q ≡ true → All (IsSymbolOf (suc last)) symbols
      → accepted m (run m q (symbols ++ replicate (suc more) 0)) ≡ true
  from-waiting [] more q below waiting are =
      accepted-at q 0 (replicate more 0) (implied (waits_in waits q) _ (goes-at q 0 below (omega arith)) waiting)
  from-waiting (x ∷ xs) more q below waiting are =
      advance q x (xs ++ replicate (suc more) 0) below (All-head (IsSymbolOf (suc last)) x xs are) (or-second (q == 0) (waits_in waits q) waiting)
      (λ t small waits. from-waiting xs more t small waits (All-tail (IsSymbolOf (suc last)) x xs are))

  states-are : length m.states ≡ suc (suc (count - 2))
  states-are = let states = is.state_count in let some = is.some_states in omega (arith, states, some)

  some-pick : (s : ℕ) (list : List ℕ) → All (IsSymbolOf (suc last)) (s ∷ list) → is_some (pick m (s ∷ list)) ≡ true
  unfolding pick scan
  some-pick s list are =
      let found = subst (λ n. accepted m (run m 0 (s ∷ (list ++ replicate n 0))) ≡ true) (sym states-are)
      (advance 0 s (list ++ replicate (suc (suc (count - 2))) 0) some-states (All-head (IsSymbolOf (suc last)) s list are) refl
      (λ t small waits. from-waiting list (suc (count - 2)) t small waits (All-tail (IsSymbolOf (suc last)) s list are))) in
      some-map (λ (f : Boundary). boundary (min f.offset (length (s ∷ list))) f.status) (picked_step (map (state_at m) (scan m (s ∷ list))))
      (some-or (first_condition [] (map (state_at m) (scan m (s ∷ list)))) (last_step acceptance_status (map (state_at m) (scan m (s ∷ list)))) found)

  no-stall : HasStall m → ⊥
  no-stall ([], some, all, none) = some refl
  no-stall (s ∷ list, some, all, none) =
      let no : true ≡ false = sym (some-pick s list (subst (λ count. All (IsSymbolOf count) (s ∷ list)) is.symbols_are all)) ∙ ap is_some none in cc

  -- ---- symbols and lookaheads

  no-name : (count : ℕ) (state : Entry) → is_state count state ≡ true → NamesPast count state → ⊥
  no-name count (Continue, None) is (inl past) = past
  no-name count (Continue, None) is (inr past) = past
  no-name count (Continue, Some name) is (inl past) = let low = ltb-true name count is in omega (arith, low, past)
  no-name count (Continue, Some name) is (inr past) = past
  no-name count (Accept status, None) is (inl past) = past
  no-name count (Accept status, None) is (inr past) = past
  no-name count (Accept status, Some name) is (inl past) = let low = ltb-true name count is in omega (arith, low, past)
  no-name count (Accept status, Some name) is (inr past) = past
  no-name count (Conditional lookahead status, None) is (inl past) = past
  no-name count (Conditional lookahead status, None) is (inr past) = let low = ltb-true lookahead count is in omega (arith, low, past)
  no-name count (Conditional lookahead status, Some name) is (inl past) =
      let low = ltb-true name count (and_parts (nat_lt lookahead count) _ is).1 in omega (arith, low, past)
  no-name count (Conditional lookahead status, Some name) is (inr past) =
      let low = ltb-true lookahead count (and_parts (nat_lt lookahead count) _ is).0 in omega (arith, low, past)

  symbol-of : (count symbol : ℕ) → is_symbol count symbol ≡ true → IsSymbolOf count symbol
  symbol-of count symbol is =
      let parts = and_parts (nat_lt 0 symbol) (nat_lt symbol count) is in (ltb-true 0 symbol parts.0, ltb-true symbol count parts.1)

  not-stray : (count shift entries value : ℕ) → is_value count shift entries value ≡ true → IsStray count shift entries value → ⊥
  not-stray count shift entries value is (inl (low, none)) =
      none (symbol-of count value (implied (nat_lt value shift) (is_symbol count value) (and_parts (nat_lt value (shift + entries)) _ is).1 (lt-ltb value shift low)))
  not-stray count shift entries value is (inr high) =
      let below = ltb-true value (shift + entries) (and_parts (nat_lt value (shift + entries)) _ is).0 in omega (arith, high, below)

  no-stray : HasMachineFault m SymbolOutOfRange → ⊥
  no-stray (inl (inl any)) =
      let (value, passes, stray) = any-passes (is_value (suc last) m.pseudo_symbol_shift (length m.pseudo_symbol_map)) (named_values m.symbols) is.values_are any in
      not-stray (suc last) m.pseudo_symbol_shift (length m.pseudo_symbol_map) value passes
      (subst (λ symbols. IsStray symbols m.pseudo_symbol_shift (length m.pseudo_symbol_map) value) is.symbols_are stray)
  no-stray (inl (inr any)) =
      let (entry, passes, none) = any-passes (is_entry (suc last)) m.pseudo_symbol_map is.entries_are any in
      none (subst (λ symbols. IsSymbolOf symbols entry.0) (sym is.symbols_are) (symbol-of (suc last) entry.0 passes))
  no-stray (inr (k, entry, below, at, p)) = let none = ap length is.nothing_replaced in omega (arith, below, none)

  -- ---- the faults

  ends-at : (state : ℕ) → state < length m.states → ends_soon m state ≡ true
  ends-at state below = let states = is.state_count in all_below-at (ends_soon m) count state is.ends_are (omega (arith, below, states))

  no-machine-fault : (fault : DataError) → HasMachineFault m fault → ⊥
  no-machine-fault StateCount (inl empty) = let size = is.state_count in let some = is.some_states in omega (arith, empty, size, some)
  no-machine-fault StateCount (inr many) = let size = is.state_count in let few = is.few_states in omega (arith, many, size, few)
  no-machine-fault TransitionSize unequal = let few = is.few_symbols in unequal (suc last) (omega arith) (omega (arith, few)) is.size
  no-machine-fault TransitionOutOfRange any =
      let (next, passes, (other, past)) = any-passes (is_next count) m.transitions is.nexts_are any in
      let size = is.state_count in
      next-state count next passes other (omega (arith, past, size))
  no-machine-fault SymbolOutOfRange stray = no-stray stray
  no-machine-fault TooManyLookaheads many = let few = is.few_lookaheads in omega (arith, many, few)
  no-machine-fault LookaheadOutOfRange any =
      let (state, passes, past) = any-passes (is_state m.num_lookaheads) m.states is.states_are any in no-name m.num_lookaheads state passes past
  no-machine-fault EndCycle (state, steps, below, back) = no-cycle m state steps (ends-at state below) back
  no-machine-fault Stalls stall = no-stall stall
  no-machine-fault _ h = h

  memory-from : (fault : DataError) → (fault ≡ Memory) ⊎ HasRangeFault m.symbols.ranges fault ⊎ HasMachineFault m fault → fault ≡ Memory
  memory-from fault (inl memory) = memory
  memory-from fault (inr (inl range)) = absurd (no-range-fault m.symbols.ranges is.ranges_are is.ranges_rise fault range)
  memory-from fault (inr (inr other)) = absurd (no-machine-fault fault other)

  -- Law: so nothing but memory can be missing
  pub memory-alone : {X : Type 0} (made : Result X DataError)
      → IfErr made (λ fault. (fault ≡ Memory) ⊎ HasRangeFault m.symbols.ranges fault ⊎ HasMachineFault m fault)
      → IfErr made (λ fault. fault ≡ Memory)
  memory-alone (Ok made) h = h
  memory-alone (Err fault) h = memory-from fault h

  in-range : (state symbol : ℕ) → IfSome (step m state symbol) (λ next. next < length m.states)
  unfolding step
  in-range state symbol =
      let states = is.state_count in
      elim (bool-cases (transition state symbol == 255)) [
        | inl none ↦ subst (λ next. IfSome next (λ next. next < length m.states)) (sym (cond-true (transition state symbol == 255) None (Some (transition state symbol)) none)) tt
        | inr some ↦
            let below = next-below state symbol some in
            subst (λ next. IfSome next (λ next. next < length m.states)) (sym (step-to state symbol some)) (omega (arith, below, states))
      ]

  -- Law: and it keeps what machines that were checked keep
  pub is-checked : HasTextSymbols m → IsChecked m
  unfolding state_at
  is-checked text =
      let states = is.state_count in
      let some = is.some_states in
      let few = is.few_states in
      record {
        some_state = omega (arith, states, some);
        few_states = omega (arith, states, few);
        text_symbols = text;
        in_range = λ state symbol below small. in-range state symbol;
        few_lookaheads = is.few_lookaheads;
        lookaheads = λ state. no-name m.num_lookaheads (state_at m state) (every-at (is_state m.num_lookaheads) m.states state (Continue, None) is.states_are refl);
        ends = λ state below.
            let fewer = few-ends m state (count - 2) (ends-at state below) in
            subst (λ n. length (run m state (replicate n 0)) < n) (sym states-are) (omega (arith, fewer));
        stall_free = stall_free-from m no-stall;
      }
