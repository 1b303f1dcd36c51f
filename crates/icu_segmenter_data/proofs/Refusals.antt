-- Data that pass computed tests have no fault with one another, so nothing but a lack of memory refuses a segmenter by them.
use Rattle.std.proofs.Common.{◌≡◌, ◌≢◌, ℕ, ◌+◌, ◌<◌, Bool, true, false, not, ◌&&◌, ◌==◌, nat_lt, length, Some, None, refl, sym, subst, arith, inl, inr, eq-eqb, lt-ltb}
use Rattle.std.specs.Prelude.{Result, Ok, Err, IfErr}
use Rattle.std.proofs.lemmas.Bool.{and_parts, ltb-true}
use Rattle.ucd_table.proofs.TrieCheck.{all_below, all_below-at}
use Rattle.seg_data.specs.declared.provider.ComplexScript.{ComplexScript}
use Rattle.seg_data.specs.declared.provider.ComplexScript.TheVariants as script
use Rattle.seg_data.specs.declared.provider.DataError.{DataError}
use Rattle.seg_data.specs.declared.provider.DataError.TheVariants.{Memory, RangeOrder, RangePast10FFFF, TableSize, ClassOutOfRange, StateOutOfRange, StartRowKeeps, ComplexItems, ComplexBelow0100, ComplexClassNamed, StateCount, TransitionSize, TransitionOutOfRange, SymbolOutOfRange, TooManyLookaheads, LookaheadOutOfRange, EndCycle, Stalls, MissingTailoring}
use Rattle.seg_data.specs.Faults.{IsLowestFault}
use Rattle.seg_data.specs.Table.{named_values}
use Rattle.seg_line_pairs.specs.declared.engines.LineEngine.{LineEngine}
use Rattle.seg_line_pairs.specs.LineClasses.{class_number}
use Rattle.seg_line_pairs.specs.LineClasses.LineClass.{ID}
use Rattle.seg_line_pairs.specs.LineRules.{HasLineTableFault, HasOwnLineFault, is_complex_by, is_never_complex}
use Rattle.seg_lines.specs.Lines.{HasFaultWith}
use Rattle.seg_machine.specs.Machine.{Machine, MachineTailoring, Replacement, symbol_and_script, symbol_count, with_tailoring}
use Rattle.seg_machine.specs.MachineFaults.{HasComplexBelow0100, HasMachineFault, HasTailoringFault, IsStray, IsStrayReplacement}
use Rattle.seg_pairs.proofs.Pairs.{data-cases}
use Rattle.seg_pairs.specs.declared.provider.pairs.BreakState.{BreakState}
use Rattle.seg_pairs.specs.declared.provider.pairs.BreakState.TheVariants.{Break, Keep, NoMatch, Intermediate, Index}
use Rattle.seg_pairs.specs.PairData.{HasPairDataFault}
use Rattle.seg_pairs.specs.PairTable.{PairTable, class_of, entry_of}
use Rattle.seg_words.proofs.Faults.{own-cases}
use Rattle.seg_words.specs.Words.{HasOwnFault, HasWordMachineFault, HasWordTableFault}
use Rattle.icu_segmenter_uax29.proofs.Faultless.{is_symbol}
use Rattle.icu_segmenter_uax29.proofs.Lists.{any-passes, every, passes}
use Rattle.icu_segmenter_uax29.proofs.Tests.{clash, implied, implies, not-true}

-- where there is no fault, only memory can be missing
pub memory-only : {X : Type 0} (made : Result X DataError) (Has : DataError → Type 0) → ((fault : DataError) → Has fault → ⊥)
    → IfErr made (IsLowestFault Has) → IfErr made (λ fault. fault ≡ Memory)
memory-only (Ok made) Has none rejected = rejected
memory-only (Err fault) Has none rejected = absurd (none fault rejected.is_there)

other : (number taken : ℕ) → not (number == taken) ≡ true → number ≡ taken → ⊥
other number taken is same = clash (eq-eqb number taken same) (not-true (number == taken) is)

-- ---- pair tables

abbrev is_apart : BreakState → Bool
is_apart Break = true
is_apart NoMatch = true
is_apart Keep = false
is_apart (Index state) = false
is_apart (Intermediate state) = false

apart : (entry : BreakState) → is_apart entry ≡ true → (entry ≢ Break) × (entry ≢ NoMatch) → ⊥
apart Break is (break, none) = break refl
apart NoMatch is (break, none) = none refl
apart Keep is keeps = cc
apart (Index state) is keeps = cc
apart (Intermediate state) is keeps = cc

-- a boundary stands between the start of a text and the class
abbrev begins : PairTable → ℕ → Bool
begins t class = is_apart (entry_of t t.sot_property class)

abbrev is_class : ℕ → ℕ → Bool
is_class count class = nat_lt class count

abbrev is_plain : PairTable → ℕ → Bool
is_plain t class = not (class == t.complex_property)

-- the classes that a table names are so many, and a boundary stands before each
pub record IsStarted (t : PairTable) (count : ℕ) : Type 0 where
  pub classes_are : every (is_class count) (named_values t.property_table) ≡ true
  pub starts_are : all_below (begins t) count ≡ true

-- .. and none of them is complex
pub record IsPlain (t : PairTable) (count : ℕ) : Type 0 where
  pub started : IsStarted t count
  pub plain_are : every (is_plain t) (named_values t.property_table) ≡ true

never-keeps : (t : PairTable) (count : ℕ) → IsStarted t count → HasPairDataFault t None StartRowKeeps → ⊥
never-keeps t count is (class, inl named, keeps) =
    let below = ltb-true class count (passes (is_class count) (named_values t.property_table) class is.classes_are named) in
    apart (entry_of t t.sot_property class) (all_below-at (begins t) count class is.starts_are below) keeps
never-keeps t count is (class, inr none, keeps) = none

never-complex : (t : PairTable) (count : ℕ) → IsPlain t count → HasPairDataFault t None ComplexItems → ⊥
never-complex t count is (inl named) =
    other t.complex_property t.complex_property (passes (is_plain t) (named_values t.property_table) t.complex_property is.plain_are named) refl
never-complex t count is (inr none) = none

-- Law: so such a table is refused by no segmenter in which nothing may be complex
pub no-pair-data-fault : (t : PairTable) (count : ℕ) → IsPlain t count → (fault : DataError) → HasPairDataFault t None fault → ⊥
no-pair-data-fault t count is fault has = elim (data-cases t None fault has) [
  | inl (same, (class, none, past)) ↦ none
  | inr later ↦ elim later [
    | inl (same, keeps) ↦ never-keeps t count is.started keeps
    | inr same ↦ never-complex t count is (subst (HasPairDataFault t None) same has)
  ]
]

-- ---- words by a pair table

abbrev is_plain_point : PairTable → ℕ → Bool
is_plain_point t code_point = not (class_of t None code_point == t.complex_property)

pub record IsWordTable (t : PairTable) (count : ℕ) : Type 0 where
  pub started : IsStarted t count
  pub latin_is : all_below (is_plain_point t) 0x100 ≡ true

no-own-fault : (t : PairTable) (count : ℕ) → IsWordTable t count → (fault : DataError) → HasOwnFault t None fault → ⊥
no-own-fault t count is fault has = elim (own-cases t None fault has) [
  | inl (same, (class, none, past)) ↦ none
  | inr later ↦ elim later [
    | inl (same, keeps) ↦ never-keeps t count is.started keeps
    | inr (same, (code_point, below, complex)) ↦
        other (class_of t None code_point) t.complex_property (all_below-at (is_plain_point t) 0x100 code_point is.latin_is below) complex
  ]
]

pub no-word-table-fault : (t clusters : PairTable) (count others : ℕ) → IsWordTable t count → IsPlain clusters others
    → (fault : DataError) → HasWordTableFault t None clusters fault → ⊥
no-word-table-fault t clusters count others is plain fault (inl own) = no-own-fault t count is fault own
no-word-table-fault t clusters count others is plain fault (inr of_clusters) = no-pair-data-fault clusters others plain fault of_clusters

-- ---- lines by a pair table

abbrev is_plain_by : LineEngine → PairTable → ℕ → Bool
is_plain_by engine t code_point = not (is_complex_by engine t (class_of t None code_point))

pub record IsLineTable (engine : LineEngine) (t : PairTable) : Type 0 where
  pub id_is : nat_lt (class_number engine ID) t.property_count ≡ true
  pub latin_is : all_below (is_plain_by engine t) 0x100 ≡ true
  pub complex_is : is_never_complex engine t.complex_property ≡ false

no-own-line-fault : (engine : LineEngine) (t : PairTable) → IsLineTable engine t → (fault : DataError) → HasOwnLineFault engine t fault → ⊥
no-own-line-fault engine t is Memory has = absurd has
no-own-line-fault engine t is RangeOrder has = absurd has
no-own-line-fault engine t is RangePast10FFFF has = absurd has
no-own-line-fault engine t is TableSize has = absurd has
no-own-line-fault engine t is ClassOutOfRange has = let below = ltb-true (class_number engine ID) t.property_count is.id_is in omega (arith, has, below)
no-own-line-fault engine t is StateOutOfRange has = absurd has
no-own-line-fault engine t is StartRowKeeps has = absurd has
no-own-line-fault engine t is ComplexItems has = absurd has
no-own-line-fault engine t is ComplexBelow0100 has =
    clash has.2 (not-true (is_complex_by engine t (class_of t None has.0)) (all_below-at (is_plain_by engine t) 0x100 has.0 is.latin_is has.1))
no-own-line-fault engine t is ComplexClassNamed has = clash has is.complex_is
no-own-line-fault engine t is StateCount has = absurd has
no-own-line-fault engine t is TransitionSize has = absurd has
no-own-line-fault engine t is TransitionOutOfRange has = absurd has
no-own-line-fault engine t is SymbolOutOfRange has = absurd has
no-own-line-fault engine t is TooManyLookaheads has = absurd has
no-own-line-fault engine t is LookaheadOutOfRange has = absurd has
no-own-line-fault engine t is EndCycle has = absurd has
no-own-line-fault engine t is Stalls has = absurd has
no-own-line-fault engine t is MissingTailoring has = absurd has

pub no-line-table-fault : (engine : LineEngine) (t clusters : PairTable) (others : ℕ) → IsLineTable engine t → IsPlain clusters others
    → (fault : DataError) → HasLineTableFault engine t clusters fault → ⊥
no-line-table-fault engine t clusters others is plain fault (inl own) = no-own-line-fault engine t is fault own
no-line-table-fault engine t clusters others is plain fault (inr of_clusters) = no-pair-data-fault clusters others plain fault of_clusters

-- ---- machines

abbrev has_no_script : ComplexScript → Bool
has_no_script script.None = true
has_no_script script.Myanmar = false
has_no_script script.Khmer = false
has_no_script script.Lao = false
has_no_script script.Thai = false
has_no_script script.ChineseOrJapanese = false

no-script : (found : ComplexScript) → has_no_script found ≡ true → (found ≢ script.None) → ⊥
no-script script.None is some = some refl
no-script script.Myanmar is some = cc
no-script script.Khmer is some = cc
no-script script.Lao is some = cc
no-script script.Thai is some = cc
no-script script.ChineseOrJapanese is some = cc

-- no code point of Latin-1 has a script
abbrev pub is_latin_plain : Machine → ℕ → Bool
is_latin_plain m code_point = has_no_script (symbol_and_script m code_point).1

none-below : (m : Machine) → all_below (is_latin_plain m) 0x100 ≡ true → HasComplexBelow0100 m → ⊥
none-below m is (code_point, below, some) =
    no-script (symbol_and_script m code_point).1 (all_below-at (is_latin_plain m) 0x100 code_point is below) some

pub no-word-machine-fault : (m : Machine) (clusters : PairTable) (others : ℕ) → all_below (is_latin_plain m) 0x100 ≡ true → IsPlain clusters others
    → (fault : DataError) → HasWordMachineFault m clusters fault → ⊥
no-word-machine-fault m clusters others is plain fault (inl below) = none-below m is below.1
no-word-machine-fault m clusters others is plain fault (inr of_clusters) = no-pair-data-fault clusters others plain fault of_clusters

-- ---- machines with tailorings

-- a value is the symbol of a text, or means an entry of the map
abbrev is_value : ℕ → ℕ → ℕ → ℕ → Bool
is_value symbols shift entries value = nat_lt value (shift + entries) && implies (nat_lt value shift) (is_symbol symbols value)

abbrev is_entry : ℕ → ℕ × ComplexScript → Bool
is_entry symbols entry = is_symbol symbols entry.0

-- an entry puts the symbol of a text in the place of one below the shift
abbrev is_replacement : ℕ → ℕ → Replacement → Bool
is_replacement symbols shift entry = (is_symbol symbols entry.0 && nat_lt entry.0 shift) && is_symbol symbols entry.1

-- what is computed of a machine that a tailoring makes, of so many symbols
pub record IsTailored (m : Machine) (symbols : ℕ) : Type 0 where
  pub symbols_are : symbol_count m ≡ symbols
  pub values_are : every (is_value symbols m.pseudo_symbol_shift (length m.pseudo_symbol_map)) (named_values m.symbols) ≡ true
  pub entries_are : every (is_entry symbols) m.pseudo_symbol_map ≡ true
  pub replaced_are : every (is_replacement symbols m.pseudo_symbol_shift) m.symbol_map ≡ true
  pub latin_is : all_below (is_latin_plain m) 0x100 ≡ true

symbol-of : (symbols symbol : ℕ) → is_symbol symbols symbol ≡ true → (0 < symbol) × (symbol < symbols)
symbol-of symbols symbol is =
    let parts = and_parts (nat_lt 0 symbol) (nat_lt symbol symbols) is in (ltb-true 0 symbol parts.0, ltb-true symbol symbols parts.1)

not-stray : (symbols shift entries value : ℕ) → is_value symbols shift entries value ≡ true → IsStray symbols shift entries value → ⊥
not-stray symbols shift entries value is (inl (low, none)) =
    none (symbol-of symbols value (implied (nat_lt value shift) (is_symbol symbols value) (and_parts (nat_lt value (shift + entries)) _ is).1 (lt-ltb value shift low)))
not-stray symbols shift entries value is (inr high) =
    let below = ltb-true value (shift + entries) (and_parts (nat_lt value (shift + entries)) _ is).0 in omega (arith, high, below)

not-stray-replacement : (symbols shift : ℕ) (entry : Replacement) → is_replacement symbols shift entry ≡ true → IsStrayReplacement symbols shift entry → ⊥
not-stray-replacement symbols shift entry is (inl (inl none)) =
    none (symbol-of symbols entry.0 (and_parts (is_symbol symbols entry.0) _ (and_parts (is_symbol symbols entry.0 && nat_lt entry.0 shift) _ is).0).0)
not-stray-replacement symbols shift entry is (inl (inr high)) =
    let below = ltb-true entry.0 shift (and_parts (is_symbol symbols entry.0) _ (and_parts (is_symbol symbols entry.0 && nat_lt entry.0 shift) _ is).0).1 in omega (arith, high, below)
not-stray-replacement symbols shift entry is (inr none) =
    none (symbol-of symbols entry.1 (and_parts (is_symbol symbols entry.0 && nat_lt entry.0 shift) _ is).1)

module _ (m : Machine) (symbols : ℕ) (is : IsTailored m symbols) where
  no-stray : HasMachineFault m SymbolOutOfRange → ⊥
  no-stray (inl (inl any)) =
      let (value, passes, stray) = any-passes (is_value symbols m.pseudo_symbol_shift (length m.pseudo_symbol_map)) (named_values m.symbols) is.values_are any in
      not-stray symbols m.pseudo_symbol_shift (length m.pseudo_symbol_map) value passes
      (subst (λ count. IsStray count m.pseudo_symbol_shift (length m.pseudo_symbol_map) value) is.symbols_are stray)
  no-stray (inl (inr any)) =
      let (entry, passes, none) = any-passes (is_entry symbols) m.pseudo_symbol_map is.entries_are any in
      none (subst (λ count. (0 < entry.0) × (entry.0 < count)) (sym is.symbols_are) (symbol-of symbols entry.0 passes))
  no-stray (inr any) =
      let (entry, passes, stray) = any-passes (is_replacement symbols m.pseudo_symbol_shift) m.symbol_map is.replaced_are any in
      not-stray-replacement symbols m.pseudo_symbol_shift entry passes
      (subst (λ count. IsStrayReplacement count m.pseudo_symbol_shift entry) is.symbols_are stray)

no-tailoring-fault : (m : Machine) (t : MachineTailoring) (symbols : ℕ) → IsTailored (with_tailoring m (Some t)) symbols
    → (fault : DataError) → HasTailoringFault m (Some t) fault → ⊥
no-tailoring-fault m t symbols is Memory has = absurd has
no-tailoring-fault m t symbols is RangeOrder has = absurd has
no-tailoring-fault m t symbols is RangePast10FFFF has = absurd has
no-tailoring-fault m t symbols is TableSize has = absurd has
no-tailoring-fault m t symbols is ClassOutOfRange has = absurd has
no-tailoring-fault m t symbols is StateOutOfRange has = absurd has
no-tailoring-fault m t symbols is StartRowKeeps has = absurd has
no-tailoring-fault m t symbols is ComplexItems has = absurd has
no-tailoring-fault m t symbols is ComplexBelow0100 has = absurd has
no-tailoring-fault m t symbols is ComplexClassNamed has = absurd has
no-tailoring-fault m t symbols is StateCount has = absurd has
no-tailoring-fault m t symbols is TransitionSize has = absurd has
no-tailoring-fault m t symbols is TransitionOutOfRange has = absurd has
no-tailoring-fault m t symbols is SymbolOutOfRange has = no-stray (with_tailoring m (Some t)) symbols is has
no-tailoring-fault m t symbols is TooManyLookaheads has = absurd has
no-tailoring-fault m t symbols is LookaheadOutOfRange has = absurd has
no-tailoring-fault m t symbols is EndCycle has = absurd has
no-tailoring-fault m t symbols is Stalls has = absurd has
no-tailoring-fault m t symbols is MissingTailoring has = absurd has

-- Law: so a machine with such a tailoring is refused by no segmenter of lines
pub no-tailored-fault : (m : Machine) (t : MachineTailoring) (symbols : ℕ) → IsTailored (with_tailoring m (Some t)) symbols
    → (fault : DataError) → HasFaultWith m (Some (Some t)) fault → ⊥
no-tailored-fault m t symbols is fault (inl stray) = no-tailoring-fault m t symbols is fault stray
no-tailored-fault m t symbols is fault (inr below) = none-below (with_tailoring m (Some t)) is.latin_is below.1

pub no-untailored-fault : (m : Machine) → all_below (is_latin_plain m) 0x100 ≡ true → (fault : DataError) → HasFaultWith m (Some None) fault → ⊥
no-untailored-fault m is fault (inl none) = none
no-untailored-fault m is fault (inr below) = none-below m is below.1
