-- Pair tables: their entries, and what holds of parts with no fault.
use Rattle.std.proofs.Common.{◌≡◌, ◌≢◌, ℕ, suc, ◌+◌, ◌*◌, ◌<◌, ◌≤◌, ◌⊎◌, length, get_or, Any, refl, sym, ap, ◌∙◌, subst, inl, inr, arith, eq-eqb}
use Rattle.std.specs.Prelude.{Option, Some, None, IsSomeAnd, Contains}
use Rattle.std.proofs.lemmas.Bool.{cases_lt, cases_eq, cond-true, cond-false, ne_eqb}
use Rattle.std.proofs.lemmas.Nat.{mul-le}
use Rattle.std.proofs.lemmas.List.{get_or_past, get_or_read}
use Rattle.seg_data.specs.declared.provider.DataError.{DataError}
use Rattle.seg_data.specs.declared.provider.DataError.TheVariants.{Memory, RangeOrder, RangePast10FFFF, TableSize, ClassOutOfRange, StateOutOfRange, StartRowKeeps, ComplexItems, ComplexBelow0100, ComplexClassNamed, StateCount, TransitionSize, TransitionOutOfRange, SymbolOutOfRange, TooManyLookaheads, LookaheadOutOfRange, EndCycle, Stalls, MissingTailoring}
use Rattle.seg_data.specs.Faults.{number_of, IsFaultless, IsLowestFault}
use Rattle.seg_data.specs.Table.{Table, named_values, value_of}
use Rattle.seg_data.proofs.Anywhere.{any-at, any-contained, contained-same}
use Rattle.seg_data.proofs.Ranges.{value-named}
use Rattle.seg_pairs.specs.declared.provider.pairs.BreakState.{BreakState}
use Rattle.seg_pairs.specs.declared.provider.pairs.BreakState.TheVariants.{NoMatch}
use Rattle.seg_pairs.specs.PairTable.{named_state, PairTable, IsPairTable, Names, Overrides, class_of, entry_of}
use Rattle.seg_pairs.specs.PairData.{HasPairFault, HasPairDataFault, NamesStatePast, KeepsStart}

-- the place of an entry
pub entry-within : (left right count : ℕ) → left < count → right < count → left * count + right < count * count
entry-within left right count here next =
    let rows : suc left * count ≤ count * count = mul-le (suc left) count count count (omega arith) (omega arith) in
    omega (arith, rows)

pub entry-read : (t : PairTable) → IsPairTable t → (left right : ℕ) (entry : BreakState) → left < t.property_count → right < t.property_count
    → entry ≡ get_or t.break_state_table (left * t.property_count + right) entry → entry ≡ entry_of t left right
unfolding entry_of
entry-read t checked left right entry here next read =
    get_or_read t.break_state_table (left * t.property_count + right) entry
    (rw checked.square (entry-within left right t.property_count here next)) read NoMatch

past-from : (count : ℕ) (named : Option ℕ) (state : ℕ) → named ≡ Some state → count ≤ state → IsSomeAnd named (λ state. count ≤ state)
past-from count named state is past = let P : Option ℕ → Type 0 = λ named. IsSomeAnd named (λ state. count ≤ state) in subst P (sym is) past

-- a state that an entry names is a state, where no listed entry names another
states-from : (t : PairTable) (left right state : ℕ) → (Any (NamesStatePast t.property_count) t.break_state_table → ⊥)
    → named_state (entry_of t left right) ≡ Some state → state < t.property_count
unfolding entry_of
states-from t left right state none named =
    elim (cases_lt state t.property_count) [
      | inl below ↦ below
      | inr past ↦ elim (cases_lt (left * t.property_count + right) (length t.break_state_table)) [
        | inl within ↦ absurd (none (any-at (NamesStatePast t.property_count) t.break_state_table (left * t.property_count + right) NoMatch within
            (past-from t.property_count _ state named past)))
        | inr beyond ↦ absurd (no-name state (sym (ap named_state (get_or_past t.break_state_table (left * t.property_count + right) NoMatch beyond)) ∙ named))
      ]
    ]
  where
    no-name : (state : ℕ) → named_state NoMatch ≡ Some state → ⊥
    no-name state is = cc

pub pair_table-from : (t : PairTable) → IsFaultless (HasPairFault t) → IsPairTable t
pair_table-from t none = record {
  some_class = elim (cases_lt 0 t.property_count) [ inl above ↦ above | inr least ↦ absurd (none TableSize (inl (omega arith))) ];
  square = elim (cases_eq (length t.break_state_table) (t.property_count * t.property_count)) [ inl same ↦ same | inr other ↦ absurd (none TableSize (inr other)) ];
  sot = elim (cases_lt t.sot_property t.property_count) [ inl below ↦ below | inr past ↦ absurd (none StateOutOfRange (inl (inl past))) ];
  eot = elim (cases_lt t.eot_property t.property_count) [ inl below ↦ below | inr past ↦ absurd (none StateOutOfRange (inl (inr past))) ];
  classes = λ class named. elim (cases_lt class t.property_count) [ inl below ↦ below | inr past ↦ absurd (none ClassOutOfRange (any-contained (λ class. t.property_count ≤ class) (named_values t.property_table) class named past)) ];
  states = λ left right state. states-from t left right state (λ any. none StateOutOfRange (inr any));
}

-- the class of a code point, by the override that there is

pub class-table : (t : PairTable) (overriding : Option Table) (code_point : ℕ) → overriding ≡ None → class_of t overriding code_point ≡ value_of t.property_table code_point
unfolding class_of
class-table t overriding code_point none = rw none refl

pub class-override : (t : PairTable) (overriding : Option Table) (classes : Table) (code_point : ℕ) → overriding ≡ Some classes
    → value_of classes code_point ≢ 0 → class_of t overriding code_point ≡ value_of classes code_point
unfolding class_of
class-override t overriding classes code_point some other = rw some (cond-false _ _ _ (ne_eqb _ _ other))

pub class-zero : (t : PairTable) (overriding : Option Table) (classes : Table) (code_point : ℕ) → overriding ≡ Some classes
    → value_of classes code_point ≡ 0 → class_of t overriding code_point ≡ value_of t.property_table code_point
unfolding class_of
class-zero t overriding classes code_point some zero = rw some (cond-true _ _ _ (eq-eqb _ 0 zero))

value-contained : (t : Table) (code_point : ℕ) → Contains (named_values t) (value_of t code_point)
value-contained t code_point = contained-same (named_values t) (value_of t code_point) (value-named (λ named. named ≡ value_of t code_point) t code_point refl)

pub class-below : (t : PairTable) (code_point class : ℕ) → IsPairTable t → class ≡ value_of t.property_table code_point → class < t.property_count
class-below t code_point class checked is = rw is (checked.classes _ (value-contained t.property_table code_point))

pub override-below : (t : PairTable) (overriding : Option Table) (classes : Table) (code_point : ℕ)
    → ((class : ℕ) → Overrides overriding class → class < t.property_count)
    → overriding ≡ Some classes → value_of classes code_point ≢ 0 → value_of classes code_point < t.property_count
override-below t overriding classes code_point fits some other =
    fits _ (subst (λ o. Overrides o (value_of classes code_point)) (sym some) (other, value-contained classes code_point))

-- no class so far keeps the start
abbrev pub NoneKeeps : PairTable → Option Table → ℕ → Type 0
NoneKeeps t overriding count = (class : ℕ) → class < count → Names t overriding class → KeepsStart t class → ⊥

-- no class of code points does, where none of those that there are does
pub none-keeps : (t : PairTable) (overriding : Option Table) (count : ℕ) → IsPairTable t
    → ((class : ℕ) → Overrides overriding class → class < t.property_count) → NoneKeeps t overriding count → t.property_count ≤ count
    → ((class : ℕ) × Names t overriding class × KeepsStart t class) → ⊥
none-keeps t overriding count checked fits none all (class, inl named, keeps) =
    none class (omega (arith, checked.classes class named)) (inl named) keeps
none-keeps t overriding count checked fits none all (class, inr other, keeps) =
    none class (omega (arith, fits class other)) (inr other) keeps

-- which faults a pair table with an override can have
pub data-cases : (t : PairTable) (overriding : Option Table) (fault : DataError) → HasPairDataFault t overriding fault
    → ((fault ≡ ClassOutOfRange) × HasPairDataFault t overriding ClassOutOfRange)
    ⊎ (((fault ≡ StartRowKeeps) × HasPairDataFault t overriding StartRowKeeps) ⊎ (fault ≡ ComplexItems))
data-cases t overriding Memory has = absurd has
data-cases t overriding RangeOrder has = absurd has
data-cases t overriding RangePast10FFFF has = absurd has
data-cases t overriding TableSize has = absurd has
data-cases t overriding ClassOutOfRange has = inl (refl, has)
data-cases t overriding StateOutOfRange has = absurd has
data-cases t overriding StartRowKeeps has = inr (inl (refl, has))
data-cases t overriding ComplexItems has = inr (inr refl)
data-cases t overriding ComplexBelow0100 has = absurd has
data-cases t overriding ComplexClassNamed has = absurd has
data-cases t overriding StateCount has = absurd has
data-cases t overriding TransitionSize has = absurd has
data-cases t overriding TransitionOutOfRange has = absurd has
data-cases t overriding SymbolOutOfRange has = absurd has
data-cases t overriding TooManyLookaheads has = absurd has
data-cases t overriding LookaheadOutOfRange has = absurd has
data-cases t overriding EndCycle has = absurd has
data-cases t overriding Stalls has = absurd has
data-cases t overriding MissingTailoring has = absurd has

-- complex items are the lowest fault where the others of an override are absent
pub complex-lowest : (t : PairTable) (overriding : Option Table) → (HasPairDataFault t overriding ClassOutOfRange → ⊥)
    → (HasPairDataFault t overriding StartRowKeeps → ⊥) → HasPairDataFault t overriding ComplexItems
    → IsLowestFault (HasPairDataFault t overriding) ComplexItems
complex-lowest t overriding class start complex = record {
  is_there = complex;
  lowest = λ lower less has. elim (data-cases t overriding lower has) [
    | inl (is, has) ↦ class has
    | inr other ↦ elim other [ inl (is, has) ↦ start has | inr is ↦ omega (arith, less, ap number_of is) ]
  ];
}

pub complex-lowest-of : (t u : PairTable) (overriding other : Option Table) → u ≡ t → other ≡ overriding
    → (HasPairDataFault t overriding ClassOutOfRange → ⊥) → (HasPairDataFault u other StartRowKeeps → ⊥) → HasPairDataFault u other ComplexItems
    → IsLowestFault (HasPairDataFault t overriding) ComplexItems
complex-lowest-of t u overriding other same equal class start complex =
    complex-lowest t overriding class
    (subst (λ o. HasPairDataFault t o StartRowKeeps → ⊥) equal (subst (λ t. HasPairDataFault t other StartRowKeeps → ⊥) same start))
    (subst (λ o. HasPairDataFault t o ComplexItems) equal (subst (λ t. HasPairDataFault t other ComplexItems) same complex))

pub not-other : (class : ℕ) → (class ≢ 0 → ⊥) → class ≡ 0
not-other class none = elim (cases_eq class 0) [ inl same ↦ same | inr other ↦ absurd (none other) ]
