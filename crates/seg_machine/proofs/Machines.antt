-- The faults of a machine's parts, check by check, and what holds of parts with none.
use Rattle.std.proofs.Common.{◌≡◌, ◌≢◌, ℕ, ◌-◌, ◌*◌, ◌/◌, ◌<◌, ◌≤◌, ◌⊎◌, ◌↔◌, ◌==◌, IsTrue, nat_lt, Bool, false, cond, List, [], ◌∷◌, length, Any, refl, sym, ap, ◌∙◌, subst, inl, inr, arith, eq-eqb}
use Rattle.std.specs.Prelude.{Option, Some, None, slice_index_or}
use Rattle.std.proofs.lemmas.Bool.{cases_lt, cond_both, cond-true, cond-false, ltb-true, ltb-false, lt-ltb, le-ltb, false≢true}
use Rattle.std.proofs.lemmas.Nat.{mul-le}
use Rattle.std.proofs.lemmas.List.{get_or_past, get_or_read}
use Rattle.seg_data.specs.declared.provider.DataError.{DataError}
use Rattle.seg_data.specs.declared.provider.DataError.TheVariants.{Memory, RangeOrder, RangePast10FFFF, TableSize, ClassOutOfRange, StateOutOfRange, StartRowKeeps, ComplexItems, ComplexBelow0100, ComplexClassNamed, StateCount, TransitionSize, TransitionOutOfRange, SymbolOutOfRange, TooManyLookaheads, LookaheadOutOfRange, EndCycle, Stalls, MissingTailoring}
use Rattle.seg_data.specs.declared.provider.ComplexScript.{ComplexScript}
use Rattle.seg_data.specs.declared.provider.ComplexScript.TheVariants.{None as NoScript}
use Rattle.seg_data.specs.Table.{Table, value_of, named_values}
use Rattle.seg_data.specs.Faults.{number_of, IsFaultless}
use Rattle.seg_data.proofs.Anywhere.{any-at, any-head, any-tail}
use Rattle.seg_data.proofs.Ranges.{value-named}
use Rattle.seg_data.proofs.Lowest.{NoneBelow, none-below-more}
use Rattle.seg_machine.specs.declared.provider.Acceptance.{Acceptance}
use Rattle.seg_machine.specs.declared.provider.Acceptance.TheVariants.{Continue, Accept, Conditional}
use Rattle.seg_machine.specs.Machine.{Machine, MachineTailoring, Replacement, replaced, with_tailoring, IsSymbolOf, IsTextSymbol, symbol_and_script, symbol_count, step, state_at}
use Rattle.seg_machine.specs.Pick.{IsStallFree}
use Rattle.seg_machine.specs.MachineFaults.{HasMachineFault, HasEndCycle, IsStray, IsStrayReplacement, NamesPast, IsChecked}
use Rattle.seg_machine.specs.Search.{IsBounded, bare}
use Rattle.seg_machine.proofs.Transitions.{step-within}
use Rattle.seg_machine.proofs.Walks.{ends-from}
use Rattle.seg_machine.proofs.Bare.{cycle-plain, stall_free-full, stall_free-from, no-stall}

-- the checks, in their order
pub below-11 : (m : Machine) → NoneBelow (HasMachineFault m) 11
below-11 m = record { absent = λ fault less has. none m fault less has }
  where
    none : (m : Machine) (fault : DataError) → number_of fault < 11 → HasMachineFault m fault → ⊥
    none m Memory less has = has
    none m RangeOrder less has = has
    none m RangePast10FFFF less has = has
    none m TableSize less has = has
    none m ClassOutOfRange less has = has
    none m StateOutOfRange less has = has
    none m StartRowKeeps less has = has
    none m ComplexItems less has = has
    none m ComplexBelow0100 less has = has
    none m ComplexClassNamed less has = has
    none m StateCount less has = omega arith
    none m TransitionSize less has = omega arith
    none m TransitionOutOfRange less has = omega arith
    none m SymbolOutOfRange less has = omega arith
    none m TooManyLookaheads less has = omega arith
    none m LookaheadOutOfRange less has = omega arith
    none m EndCycle less has = omega arith
    none m Stalls less has = omega arith
    none m MissingTailoring less has = has

pub below-12 : (m : Machine) → 0 < length m.states → length m.states ≤ 255 → NoneBelow (HasMachineFault m) 12
below-12 m some few =
    none-below-more (HasMachineFault m) StateCount 11 refl (below-11 m) (λ has. elim has [ inl none ↦ omega arith | inr many ↦ omega arith ])

pub below-13 : (m : Machine) → NoneBelow (HasMachineFault m) 12 → (HasMachineFault m TransitionSize → ⊥) → NoneBelow (HasMachineFault m) 13
below-13 m below absent = none-below-more (HasMachineFault m) TransitionSize 12 refl below absent

pub below-14 : (m : Machine) → NoneBelow (HasMachineFault m) 13 → (HasMachineFault m TransitionOutOfRange → ⊥) → NoneBelow (HasMachineFault m) 14
below-14 m below absent = none-below-more (HasMachineFault m) TransitionOutOfRange 13 refl below absent

pub some-from : (n : ℕ) (is_none : Bool) → is_none ≡ (n == 0) → is_none ≡ false → 0 < n
some-from n is_none is not =
    elim (cases_lt 0 n) [ inl above ↦ above | inr least ↦ absurd (false≢true (sym not ∙ is ∙ eq-eqb n 0 (omega arith))) ]

-- the transitions are at least as many as the states
pub size-covers : (m : Machine) → (HasMachineFault m TransitionSize → ⊥) → length m.states ≤ length m.transitions
size-covers m absent =
    elim (cases_lt (length m.transitions) (length m.states)) [
      | inl less ↦ absurd (absent (λ count some few. too-many count some less))
      | inr covers ↦ covers
    ]
  where
    too-many : (count : ℕ) → 0 < count → length m.transitions < length m.states → length m.transitions ≢ length m.states * count
    too-many count some less same =
        let rows : length m.states * 1 ≤ length m.states * count = mul-le (length m.states) 1 (length m.states) count (omega arith) (omega arith) in
        omega (arith, rows)

-- as the code looks for strays, part by part
abbrev StrayBy : List (ℕ × ComplexScript) → List Replacement → Table → ℕ → ℕ → Type 0
StrayBy map replacements symbols count shift =
    (Any (IsStray count shift (length map)) (named_values symbols) ⊎ Any (λ entry. IsSymbolOf count entry.0 → ⊥) map)
    ⊎ Any (IsStrayReplacement count shift) replacements

-- as the code counts the symbols
abbrev pub StrayAt : Machine → ℕ → Type 0
StrayAt m count = StrayBy m.pseudo_symbol_map m.symbol_map m.symbols count m.pseudo_symbol_shift

-- stray symbols, from the parts one by one
pub stray-parts : (m : Machine) (t : MachineTailoring) (symbols : Table) (count shift : ℕ) (map : List (ℕ × ComplexScript)) (replacements : List Replacement) (found : Bool)
    → symbols ≡ m.symbols → count ≡ length m.transitions / length m.states → shift ≡ m.pseudo_symbol_shift → map ≡ t.pseudo_symbol_map → replacements ≡ t.symbol_map
    → (IsTrue found ↔ StrayBy map replacements symbols count shift)
    → (IsTrue found ↔ HasMachineFault (with_tailoring m (Some t)) SymbolOutOfRange)
unfolding symbol_count
stray-parts m t symbols count shift map replacements found same_symbols same_count same_shift same_map same_replacements tells =
    let Tells : List (ℕ × ComplexScript) → List Replacement → Table → ℕ → ℕ → Type 0 =
    λ map replacements symbols count shift. IsTrue found ↔ StrayBy map replacements symbols count shift
    in
    subst (λ map. Tells map t.symbol_map m.symbols (length m.transitions / length m.states) m.pseudo_symbol_shift) same_map
    (subst (λ replacements. Tells map replacements m.symbols (length m.transitions / length m.states) m.pseudo_symbol_shift) same_replacements
    (subst (λ symbols. Tells map replacements symbols (length m.transitions / length m.states) m.pseudo_symbol_shift) same_symbols
    (subst (λ count. Tells map replacements symbols count m.pseudo_symbol_shift) same_count (subst (λ shift. Tells map replacements symbols count shift) same_shift tells))))

pub stray-there : (m : Machine) → StrayAt m (length m.transitions / length m.states) → HasMachineFault m SymbolOutOfRange
unfolding symbol_count
stray-there m stray = stray

pub below-15 : (m : Machine) → NoneBelow (HasMachineFault m) 14 → (StrayAt m (length m.transitions / length m.states) → ⊥) → NoneBelow (HasMachineFault m) 15
unfolding symbol_count
below-15 m below absent = none-below-more (HasMachineFault m) SymbolOutOfRange 14 refl below absent

pub below-16 : (m : Machine) → NoneBelow (HasMachineFault m) 15 → m.num_lookaheads ≤ 8 → NoneBelow (HasMachineFault m) 16
below-16 m below none = none-below-more (HasMachineFault m) TooManyLookaheads 15 refl below (λ has. omega arith)

pub below-17 : (m : Machine) → NoneBelow (HasMachineFault m) 16 → (HasMachineFault m LookaheadOutOfRange → ⊥) → NoneBelow (HasMachineFault m) 17
below-17 m below absent = none-below-more (HasMachineFault m) LookaheadOutOfRange 16 refl below absent

quotient-some : (n k : ℕ) → 0 < k → k ≤ n → 0 < n / k
quotient-some n k some covers =
    elim (cases_lt 0 (n / k)) [
      | inl above ↦ above
      | inr least ↦
          let none : n / k ≡ 0 = omega arith in
          let row : k * (n / k) ≡ k * 0 = ap (λ (q : ℕ). k * q) none in
          absurd (omega arith)
    ]

-- there is a symbol, as there are as many transitions as states
count-some : (m : Machine) → 0 < length m.states → length m.states ≤ length m.transitions → 0 < symbol_count m
unfolding symbol_count
count-some m some covers = quotient-some (length m.transitions) (length m.states) some covers

-- no state names a lookahead past the number of them
pub no-past : (count : ℕ) (states : List (Acceptance × Option ℕ)) (q : ℕ) → (Any (NamesPast count) states → ⊥)
    → NamesPast count (slice_index_or states q (Continue, None)) → ⊥
no-past count states q absent past =
    elim (cases_lt q (length states)) [
      | inl within ↦ absent (any-at (NamesPast count) states q (Continue, None) within past)
      | inr end ↦ none-past count (subst (NamesPast count) (get_or_past states q (Continue, None) end) past)
    ]
  where
    none-past : (count : ℕ) → NamesPast count (Continue, None) → ⊥
    none-past count (inl h) = h
    none-past count (inr h) = h

lookaheads-from : (m : Machine) (state : ℕ) → (HasMachineFault m LookaheadOutOfRange → ⊥) → NamesPast m.num_lookaheads (state_at m state) → ⊥
unfolding state_at
lookaheads-from m state absent past = no-past m.num_lookaheads m.states state absent past

-- a lookahead past many is past fewer
pub past-fewer : (fewer many : ℕ) (state : Acceptance × Option ℕ) → fewer ≤ many → NamesPast many state → NamesPast fewer state
past-fewer fewer many (Conditional lookahead status, naming) le (inr past) = inr (omega arith)
past-fewer fewer many (Accept status, naming) le (inr past) = absurd past
past-fewer fewer many (Continue, naming) le (inr past) = absurd past
past-fewer fewer many (acceptance, Some lookahead) le (inl past) = inl (omega arith)
past-fewer fewer many (acceptance, None) le (inl past) = absurd past

plain-state : (m : Machine) (state : ℕ) → NamesPast 8 (state_at (bare m.states m.transitions) state) → NamesPast 8 (slice_index_or m.states state (Continue, None))
unfolding state_at
plain-state m state past = past

-- the parts that the last two checks look at
pub bounded-from : (m : Machine) → 0 < length m.states → length m.states ≤ 255
    → (HasMachineFault m TransitionSize → ⊥) → (HasMachineFault m TransitionOutOfRange → ⊥)
    → m.num_lookaheads ≤ 8 → (HasMachineFault m LookaheadOutOfRange → ⊥) → IsBounded (bare m.states m.transitions)
unfolding symbol_count
bounded-from m some few size range lookaheads names = record {
  some_state = some;
  few_states = few;
  some_symbol = count-some m some (size-covers m size);
  in_range = λ state symbol here below. step-within (bare m.states m.transitions) state symbol range here below;
  lookaheads = λ state past. no-past m.num_lookaheads m.states state names (past-fewer m.num_lookaheads 8 _ lookaheads (plain-state m state past));
}

pub count-plain : (m : Machine) (symbol : ℕ) → symbol < symbol_count m → symbol < symbol_count (bare m.states m.transitions)
unfolding symbol_count
count-plain m symbol below = below

-- what a checked machine keeps of that
pub bounded-checked : (m : Machine) → IsChecked m → IsBounded (bare m.states m.transitions)
unfolding step symbol_count state_at
bounded-checked m checked =
    let text : IsTextSymbol m (symbol_and_script m 0).0 = checked.text_symbols 0 in
    record {
      some_state = checked.some_state;
      few_states = checked.few_states;
      some_symbol = omega (arith, text.0, text.1);
      in_range = checked.in_range;
      lookaheads = λ state past. checked.lookaheads state (past-fewer m.num_lookaheads 8 _ checked.few_lookaheads (plain-state m state past));
    }

pub below-18 : (m : Machine) → NoneBelow (HasMachineFault m) 17 → (HasEndCycle (bare m.states m.transitions) → ⊥) → NoneBelow (HasMachineFault m) 18
below-18 m below absent = none-below-more (HasMachineFault m) EndCycle 17 refl below (λ has. absent (cycle-plain m has))

pub below-19 : (m : Machine) → NoneBelow (HasMachineFault m) 18 → IsStallFree (bare m.states m.transitions) → NoneBelow (HasMachineFault m) 19
below-19 m below free =
    none-below-more (HasMachineFault m) Stalls 18 refl below
    (λ has. no-stall m (stall_free-full m free) has)

pub below-20 : (m : Machine) → NoneBelow (HasMachineFault m) 19 → NoneBelow (HasMachineFault m) 20
below-20 m below = none-below-more (HasMachineFault m) MissingTailoring 19 refl below (λ has. has)

-- a machine without faults is checked

text-from : (count symbol : ℕ) → ((IsSymbolOf count symbol → ⊥) → ⊥) → IsSymbolOf count symbol
text-from count symbol sure =
    elim (cases_lt 0 symbol) [
      | inl above ↦ elim (cases_lt symbol count) [
        | inl below ↦ (above, below)
        | inr past ↦ absurd (sure (λ text. omega arith))
      ]
      | inr least ↦ absurd (sure (λ text. omega arith))
    ]

-- a symbol in the place of another is one of a text
replaced-text : (count shift : ℕ) (entries : List Replacement) (symbol : ℕ) → (Any (IsStrayReplacement count shift) entries → ⊥) → IsSymbolOf count symbol
    → IsSymbolOf count (replaced entries symbol).0
unfolding replaced
replaced-text count shift [] symbol none text = text
replaced-text count shift (entry ∷ entries) symbol none text =
    cond_both (entry.0 == symbol) (entry.1, entry.2) (replaced entries symbol) (λ (found : ℕ × ComplexScript). IsSymbolOf count found.0)
    (λ here. text-from count entry.1 (λ not_text. none (any-head (IsStrayReplacement count shift) entry entries (inr not_text))))
    (λ later. replaced-text count shift entries symbol (λ any. none (any-tail (IsStrayReplacement count shift) entry entries any)) text)

symbol-from : (m : Machine) (value : ℕ) → (HasMachineFault m SymbolOutOfRange → ⊥)
    → (IsStray (symbol_count m) m.pseudo_symbol_shift (length m.pseudo_symbol_map) value → ⊥)
    → IsTextSymbol m (let found : ℕ × ComplexScript = cond (nat_lt value m.pseudo_symbol_shift) (replaced m.symbol_map value) (slice_index_or m.pseudo_symbol_map (value - m.pseudo_symbol_shift) (0, NoScript)) in found.0)
symbol-from m value faultless stays =
    cond_both (nat_lt value m.pseudo_symbol_shift) (replaced m.symbol_map value) (slice_index_or m.pseudo_symbol_map (value - m.pseudo_symbol_shift) (0, NoScript))
    (λ (found : ℕ × ComplexScript). IsTextSymbol m found.0)
    (λ below.
    replaced-text (symbol_count m) m.pseudo_symbol_shift m.symbol_map value (λ stray. faultless (inr stray))
    (text-from (symbol_count m) value (λ not_text. stays (inl (ltb-true value m.pseudo_symbol_shift below, not_text)))))
    (λ above. text-from (symbol_count m) _ (λ not_text. faultless (inl (inr (any-at (λ entry. IsTextSymbol m entry.0 → ⊥) m.pseudo_symbol_map (value - m.pseudo_symbol_shift) (0, NoScript) (entry-within above) not_text)))))
  where
    entry-within : nat_lt value m.pseudo_symbol_shift ≡ false → value - m.pseudo_symbol_shift < length m.pseudo_symbol_map
    entry-within above =
        let least = ltb-false value m.pseudo_symbol_shift above in
        elim (cases_lt (value - m.pseudo_symbol_shift) (length m.pseudo_symbol_map)) [
          | inl below ↦ below
          | inr past ↦ absurd (stays (inr (omega arith)))
        ]

pub text_symbols-from : (m : Machine) (code_point : ℕ) → (HasMachineFault m SymbolOutOfRange → ⊥)
    → IsTextSymbol m (symbol_and_script m code_point).0
unfolding symbol_and_script
text_symbols-from m code_point faultless =
    symbol-from m (value_of m.symbols code_point) faultless
    (λ stray. faultless (inl (inl (value-named (IsStray (symbol_count m) m.pseudo_symbol_shift (length m.pseudo_symbol_map)) m.symbols code_point stray))))

-- the symbol and the script of a value below the shift, and of one from the shift on
pub symbol-below : (m : Machine) (code_point value : ℕ) → value ≡ value_of m.symbols code_point → value < m.pseudo_symbol_shift
    → replaced m.symbol_map value ≡ symbol_and_script m code_point
unfolding symbol_and_script
symbol-below m code_point value is below =
    rw (← is) (sym (cond-true (nat_lt value m.pseudo_symbol_shift) (replaced m.symbol_map value) (slice_index_or m.pseudo_symbol_map (value - m.pseudo_symbol_shift) (0, NoScript)) (lt-ltb value m.pseudo_symbol_shift below)))

pub symbol-entry : (m : Machine) (code_point value : ℕ) → value ≡ value_of m.symbols code_point → m.pseudo_symbol_shift ≤ value
    → slice_index_or m.pseudo_symbol_map (value - m.pseudo_symbol_shift) (0, NoScript) ≡ symbol_and_script m code_point
unfolding symbol_and_script
symbol-entry m code_point value is past =
    rw (← is) (sym (cond-false (nat_lt value m.pseudo_symbol_shift) (replaced m.symbol_map value) (slice_index_or m.pseudo_symbol_map (value - m.pseudo_symbol_shift) (0, NoScript)) (le-ltb value m.pseudo_symbol_shift past)))

-- a pseudo symbol has an entry
pub entry-within : (m : Machine) (code_point value : ℕ) → value ≡ value_of m.symbols code_point → m.pseudo_symbol_shift ≤ value
    → IsTextSymbol m (symbol_and_script m code_point).0 → value - m.pseudo_symbol_shift < length m.pseudo_symbol_map
entry-within m code_point value is past text =
    elim (cases_lt (value - m.pseudo_symbol_shift) (length m.pseudo_symbol_map)) [
      | inl within ↦ within
      | inr end ↦
          let none : (symbol_and_script m code_point).0 ≡ 0 = ap (λ (found : ℕ × ComplexScript). found.0) (sym (symbol-entry m code_point value is past) ∙ get_or_past m.pseudo_symbol_map (value - m.pseudo_symbol_shift) (0, NoScript) end) in
          omega arith
    ]

-- what a look-up in the map gives: an entry, or none
pub entry-read : (m : Machine) (code_point value shift : ℕ) (entry : ℕ × ComplexScript) → value ≡ value_of m.symbols code_point
    → shift ≡ m.pseudo_symbol_shift → shift ≤ value → value - shift < length m.pseudo_symbol_map
    → entry ≡ slice_index_or m.pseudo_symbol_map (value - shift) entry → entry ≡ symbol_and_script m code_point
entry-read m code_point value shift entry is same past within read =
    get_or_read m.pseudo_symbol_map (value - shift) entry within read (0, NoScript)
    ∙ ap (λ (at : ℕ). slice_index_or m.pseudo_symbol_map (value - at) (0, NoScript)) same
    ∙ symbol-entry m code_point value is (rw same at past)

pub entry-none : (m : Machine) (code_point value shift : ℕ) → value ≡ value_of m.symbols code_point
    → shift ≡ m.pseudo_symbol_shift → shift ≤ value → length m.pseudo_symbol_map ≤ value - shift → (0, NoScript) ≡ symbol_and_script m code_point
entry-none m code_point value shift is same past end =
    sym (get_or_past m.pseudo_symbol_map (value - shift) (0, NoScript) end)
    ∙ ap (λ (at : ℕ). slice_index_or m.pseudo_symbol_map (value - at) (0, NoScript)) same
    ∙ symbol-entry m code_point value is (rw same at past)

pub checked-from : (m : Machine) → IsFaultless (HasMachineFault m) → IsChecked m
checked-from m faultless =
    let few : m.num_lookaheads ≤ 8 = elim (cases_lt 8 m.num_lookaheads) [ inl many ↦ absurd (faultless TooManyLookaheads many) | inr few ↦ few ] in
    let range = λ (state symbol : ℕ) (here : state < length m.states) (below : symbol < symbol_count m). step-within m state symbol (faultless TransitionOutOfRange) here below in
    let some : 0 < length m.states = elim (cases_lt 0 (length m.states)) [ inl some ↦ some | inr few ↦ absurd (faultless StateCount (inl (omega arith))) ] in
    let symbol : 0 < symbol_count m = count-some m some (size-covers m (faultless TransitionSize)) in
    record {
      some_state = some;
      few_states = elim (cases_lt 255 (length m.states)) [ inl many ↦ absurd (faultless StateCount (inr many)) | inr few ↦ few ];
      text_symbols = λ code_point. text_symbols-from m code_point (faultless SymbolOutOfRange);
      in_range = range;
      few_lookaheads = few;
      lookaheads = λ state. lookaheads-from m state (faultless LookaheadOutOfRange);
      ends = λ state here. ends-from m (λ state here. range state 0 here symbol) (faultless EndCycle) state here;
      stall_free = stall_free-from m (faultless Stalls);
    }
