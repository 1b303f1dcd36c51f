-- A test that machines written by hand pass. Those that do have no fault.
use Rattle.std.proofs.Common.{◌≡◌, ◌≢◌, ℕ, zero, suc, ◌+◌, ◌*◌, ◌<◌, ◌≤◌, ◌⊎◌, inl, inr, Bool, true, false, ◌||◌, ◌&&◌, ◌==◌, nat_lt, nat_le, Option, Some, None, List, [], Any, IsSome, length, refl, sym, subst, ◌∙◌, arith}
use Rattle.std.specs.List.{list_all}
use Rattle.std.specs.Option.{option_map_or}
use Rattle.std.proofs.lemmas.List.Sums.{AllPass-from_list_all}
use Rattle.std.proofs.lemmas.Bool.{cases_eq, false≢true}
use Rattle.std.proofs.lemmas.Bool.Decides.{nat_tests}
use Rattle.std.proofs.lemmas.Option.{none-some, same_Some}
use Rattle.seg_data.specs.declared.provider.DataError.{DataError}
use Rattle.seg_data.specs.declared.provider.DataError.TheVariants.{Memory, RangeOrder, RangePast10FFFF, TableSize, ClassOutOfRange, StateOutOfRange, StartRowKeeps, ComplexItems, ComplexBelow0100, ComplexClassNamed, StateCount, TransitionSize, TransitionOutOfRange, SymbolOutOfRange, TooManyLookaheads, LookaheadOutOfRange, EndCycle, Stalls, MissingTailoring}
use Rattle.seg_data.specs.Table.{named_values}
use Rattle.seg_data.specs.Faults.{IsFaultless}
use Rattle.seg_machine.specs.declared.provider.Acceptance.{Acceptance}
use Rattle.seg_machine.specs.declared.provider.Acceptance.TheVariants.{Continue, Accept, Conditional}
use Rattle.seg_machine.specs.Machine.{Machine, IsSymbolOf, symbol_count, step, state_at, state_after_ends}
use Rattle.seg_machine.specs.Pick.{HasStall, pick}
use Rattle.seg_machine.specs.Search.{AreFollowed, IsFollowed, enter, is_pick}
use Rattle.seg_machine.specs.MachineFaults.{HasMachineFault, IsStray, NamesPast}
use Rattle.seg_machine.proofs.Marks.{unmarked}
use Rattle.seg_machine.proofs.Searches.{stall_free}
use Rattle.seg_machine.proofs.Walks.{walk-next, walk-end}

-- the numbers below a count pass
unfoldable pub all_below : (ℕ → Bool) → ℕ → Bool
all_below test zero = true
all_below test (suc count) = test count && all_below test count

-- there are 1 to 255 states, and a transition for each of them and each of 1 to 256 symbols
abbrev pub has_size : Machine → Bool
has_size m =
    nat_lt 0 (length m.states) && nat_le (length m.states) 255
    && nat_lt 0 (symbol_count m) && nat_le (symbol_count m) 256
    && length m.transitions == length m.states * symbol_count m

abbrev pub is_target : Machine → ℕ → Bool
is_target m next = next == 255 || nat_lt next (length m.states)

abbrev pub is_symbol : Machine → ℕ → Bool
is_symbol m symbol = nat_lt 0 symbol && nat_lt symbol (symbol_count m)

abbrev pub is_value : Machine → ℕ → Bool
is_value m value =
    (nat_lt value m.pseudo_symbol_shift && is_symbol m value)
    || (nat_le m.pseudo_symbol_shift value && nat_lt value (m.pseudo_symbol_shift + length m.pseudo_symbol_map))

-- the state names no lookahead, and is no condition on one
abbrev pub names_none : Acceptance × Option ℕ → Bool
names_none (acceptance, Some lookahead) = false
names_none (Conditional lookahead status, None) = false
names_none (Continue, None) = true
names_none (Accept status, None) = true

-- symbol 0 leads on from the state at most once
abbrev pub ends_soon : Machine → ℕ → Bool
ends_soon m state = option_map_or (λ next. option_map_or (λ more. false) (step m next 0) true) (step m state 0) true

-- START leads on the symbol to a state that accepts, unless it is the symbol of the end
abbrev pub is_accepted : Machine → ℕ → Bool
is_accepted m symbol =
    symbol == 0 || option_map_or (λ next. is_pick 0 (state_at m next).0) (step m 0 symbol) false

-- the whole test
abbrev pub is_simple : Machine → Bool
is_simple m =
    has_size m
    && list_all (is_target m) m.transitions
    && list_all (is_value m) (named_values m.symbols)
    && list_all (λ entry. is_symbol m entry.0) m.pseudo_symbol_map
    && list_all (λ entry. false) m.symbol_map
    && nat_le m.num_lookaheads 8
    && list_all names_none m.states
    && all_below (ends_soon m) (length m.states)
    && all_below (is_accepted m) (symbol_count m)

both : (a b : Bool) → (a && b) ≡ true → (a ≡ true) × (b ≡ true)
both true b is = (refl, is)
both false b is = cc

pub all_below-at : (test : ℕ → Bool) (count number : ℕ) → all_below test count ≡ true → number < count → test number ≡ true
unfolding all_below
all_below-at test zero number passed below = absurd (omega arith)
all_below-at test (suc count) number passed below =
    let split = both (test count) (all_below test count) passed in
    elim (cases_eq number count) [
      | inl last ↦ rw last split.0
      | inr before ↦ all_below-at test count number split.1 (omega arith)
    ]

-- what no element that passes a test is isn't in a list that passes it
pub any-refuted : {X : Type 0} (P : X → Type 0) (test : X → Bool) (xs : List X) → list_all test xs ≡ true → ((x : X) → P x → test x ≡ true → ⊥) → Any P xs → ⊥
any-refuted P test xs passed refuted any =
    refuted any.1 any.4 (let pass = AllPass-from_list_all test xs passed any.0 any.1 any.2 in rw any.3 at pass)

no-count : (m : Machine) → has_size m ≡ true → length m.states ≡ 0 → ⊥
no-count m passed none = grind (arith, nat_tests)

no-more : (m : Machine) → has_size m ≡ true → 255 < length m.states → ⊥
no-more m passed more = grind (arith, nat_tests)

no-size : (m : Machine) → has_size m ≡ true → HasMachineFault m TransitionSize → ⊥
no-size m passed fault = fault (symbol_count m) (grind (arith, nat_tests)) (grind (arith, nat_tests)) (grind (arith, nat_tests))

no-target : (m : Machine) (next : ℕ) → (next ≢ 255) × (length m.states ≤ next) → is_target m next ≡ true → ⊥
no-target m next past passed = grind (arith, nat_tests)

no-symbol : (m : Machine) (symbol : ℕ) → (IsSymbolOf (symbol_count m) symbol → ⊥) → is_symbol m symbol ≡ true → ⊥
no-symbol m symbol none passed = none (grind (arith, nat_tests), grind (arith, nat_tests))

no-value : (m : Machine) (value : ℕ) → IsStray (symbol_count m) m.pseudo_symbol_shift (length m.pseudo_symbol_map) value → is_value m value ≡ true → ⊥
no-value m value (inl (below, none)) passed = none (grind (arith, nat_tests), grind (arith, nat_tests))
no-value m value (inr past) passed = grind (arith, nat_tests)

no-name : (count : ℕ) (state : Acceptance × Option ℕ) → NamesPast count state → names_none state ≡ true → ⊥
no-name count (acceptance, Some lookahead) past passed = cc
no-name count (Conditional lookahead status, None) past passed = cc
no-name count (Continue, None) (inl h) passed = h
no-name count (Continue, None) (inr h) passed = h
no-name count (Accept status, None) (inl h) passed = h
no-name count (Accept status, None) (inr h) passed = h

-- an option that passes a test where it has a value; and one that has a value which passes
if-some : {X : Type 0} (test : X → Bool) (found : Option X) → option_map_or test found true ≡ true → (found ≡ None) ⊎ ((x : X) × (found ≡ Some x) × (test x ≡ true))
if-some test None passed = inl refl
if-some test (Some x) passed = inr (x, refl, passed)

is-some : {X : Type 0} (test : X → Bool) (found : Option X) → option_map_or test found false ≡ true → (x : X) × (found ≡ Some x) × (test x ≡ true)
is-some test None passed = cc
is-some test (Some x) passed = (x, refl, passed)

-- symbol 0 goes round in no cycle
no-walk : (m : Machine) (state other steps : ℕ) → step m state 0 ≡ None → state_after_ends m state (suc steps) ≡ Some other → ⊥
no-walk m state other steps none round = none-some other (sym (walk-end m state steps none) ∙ round)

no-round : (m : Machine) (state next steps : ℕ) → step m state 0 ≡ Some next → step m next 0 ≡ None → state_after_ends m next steps ≡ Some state → ⊥
unfolding state_after_ends
no-round m state next zero leads none round = let back : step m next 0 ≡ Some next = subst (λ q. step m q 0 ≡ Some next) (sym (same_Some next state round)) leads in none-some next (sym none ∙ back)
no-round m state next (suc steps) leads none round = no-walk m next state steps none round

no-cycle : (m : Machine) (state steps : ℕ) → ends_soon m state ≡ true → state_after_ends m state (suc steps) ≡ Some state → ⊥
no-cycle m state steps passed round =
    elim (if-some _ (step m state 0) passed) [
      | inl none ↦ no-walk m state state steps none round
      | inr (next, leads, ends) ↦
          elim (if-some _ (step m next 0) ends) [
            | inl none ↦ no-round m state next steps leads none (sym (walk-next m state next steps leads) ∙ round)
            | inr (more, leads_on, never) ↦ cc
          ]
    ]

-- START is followed on each symbol of a text
entered : (acceptance : Acceptance × Option ℕ) → is_pick 0 acceptance.0 ≡ true → enter 0 acceptance ≡ None
entered acceptance picked = rw picked refl

followed : (m : Machine) (symbol : ℕ) → 0 < symbol → is_accepted m symbol ≡ true → IsFollowed m [] 0 0 symbol
followed m symbol some passed =
    let other : (symbol == 0) ≡ false = grind (arith, nat_tests) in
    let found = is-some _ (step m 0 symbol) (rw other at passed) in
    record { next = found.0; leads = found.1; marked = rw (entered (state_at m found.0) found.2) tt }

never-stalls : (m : Machine) → all_below (is_accepted m) (symbol_count m) ≡ true → HasStall m → ⊥
never-stalls m passed (symbols, some, text, none) =
    let start : AreFollowed m [] 0 0 = λ symbol below above. followed m symbol above (all_below-at _ (symbol_count m) symbol passed below) in
    has-value (pick m symbols) none (stall_free m [] (λ pair marked less. absurd (unmarked 0 pair marked)) start symbols some text)
  where
    has-value : {X : Type 0} (picked : Option X) → picked ≡ None → IsSome picked → ⊥
    has-value picked none some = cc

pub record IsSimple (m : Machine) : Type 0 where
  size : has_size m ≡ true
  targets : list_all (is_target m) m.transitions ≡ true
  values : list_all (is_value m) (named_values m.symbols) ≡ true
  entries : list_all (λ entry. is_symbol m entry.0) m.pseudo_symbol_map ≡ true
  replacements : list_all (λ entry. false) m.symbol_map ≡ true
  lookaheads : nat_le m.num_lookaheads 8 ≡ true
  names : list_all names_none m.states ≡ true
  ends : all_below (ends_soon m) (length m.states) ≡ true
  accepted : all_below (is_accepted m) (symbol_count m) ≡ true

parts : (m : Machine) → is_simple m ≡ true → IsSimple m
parts m passed = let
    accepted = both _ _ passed in let
    ends = both _ _ accepted.0 in let
    names = both _ _ ends.0 in let
    lookaheads = both _ _ names.0 in let
    replacements = both _ _ lookaheads.0 in let
    entries = both _ _ replacements.0 in let
    values = both _ _ entries.0 in let
    targets = both _ _ values.0 in record {
      size = targets.0;
      targets = targets.1;
      values = values.1;
      entries = entries.1;
      replacements = replacements.1;
      lookaheads = lookaheads.1;
      names = names.1;
      ends = ends.1;
      accepted = accepted.1;
    }

pub simple-faultless : (m : Machine) → is_simple m ≡ true → IsFaultless (HasMachineFault m)
simple-faultless m passed fault has = none fault (parts m passed) has
  where
    none : (fault : DataError) → IsSimple m → HasMachineFault m fault → ⊥
    none Memory simple has = has
    none RangeOrder simple has = has
    none RangePast10FFFF simple has = has
    none TableSize simple has = has
    none ClassOutOfRange simple has = has
    none StateOutOfRange simple has = has
    none StartRowKeeps simple has = has
    none ComplexItems simple has = has
    none ComplexBelow0100 simple has = has
    none ComplexClassNamed simple has = has
    none StateCount simple (inl has) = no-count m simple.size has
    none StateCount simple (inr has) = no-more m simple.size has
    none TransitionSize simple has = no-size m simple.size has
    none TransitionOutOfRange simple has = any-refuted _ _ m.transitions simple.targets (no-target m) has
    none SymbolOutOfRange simple (inl (inl has)) = any-refuted _ _ (named_values m.symbols) simple.values (no-value m) has
    none SymbolOutOfRange simple (inl (inr has)) = any-refuted _ _ m.pseudo_symbol_map simple.entries (λ entry. no-symbol m entry.0) has
    none SymbolOutOfRange simple (inr has) = any-refuted _ _ m.symbol_map simple.replacements (λ entry stray passed. false≢true passed) has
    none TooManyLookaheads simple has = let few = simple.lookaheads in grind (arith, nat_tests)
    none LookaheadOutOfRange simple has = any-refuted _ _ m.states simple.names (no-name m.num_lookaheads) has
    none EndCycle simple has = no-cycle m has.0 has.1 (all_below-at _ (length m.states) has.0 simple.ends has.2) has.3
    none Stalls simple has = never-stalls m simple.accepted has
    none MissingTailoring simple has = has
