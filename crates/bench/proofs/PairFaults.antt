-- The bench pair tables have no fault.
use Rattle.std.proofs.Common.{◌≡◌, ◌≢◌, ℕ, ◌*◌, ◌≤◌, inl, inr, Bool, true, false, not, ◌==◌, nat_lt, None, length, refl, sym, ap, ◌∙◌, arith, eq-eqb}
use Rattle.std.specs.List.{list_all}
use Rattle.std.proofs.lemmas.Bool.{false≢true}
use Rattle.std.proofs.lemmas.Bool.Decides.{nat_tests}
use Rattle.seg_data.specs.declared.provider.DataError.{DataError}
use Rattle.seg_data.specs.declared.provider.DataError.TheVariants.{Memory, RangeOrder, RangePast10FFFF, TableSize, ClassOutOfRange, StateOutOfRange, StartRowKeeps, ComplexItems, ComplexBelow0100, ComplexClassNamed, StateCount, TransitionSize, TransitionOutOfRange, SymbolOutOfRange, TooManyLookaheads, LookaheadOutOfRange, EndCycle, Stalls, MissingTailoring}
use Rattle.seg_data.specs.Faults.{IsFaultless, IsLowestFault}
use Rattle.seg_data.specs.Table.{named_values}
use Rattle.seg_data.proofs.Anywhere.{any-contained}
use Rattle.seg_pairs.specs.declared.provider.pairs.BreakState.{BreakState}
use Rattle.seg_pairs.specs.declared.provider.pairs.BreakState.TheVariants.{Break, Keep, NoMatch, Intermediate, Index}
use Rattle.seg_pairs.specs.PairData.{HasPairFault, HasPairDataFault, NamesStatePast, KeepsStart}
use Rattle.seg_pairs.specs.PairTable.{PairTable, entry_of}
use Rattle.bench.specs.PairTables.{cluster_table, sentence_table, word_table}
use Rattle.bench.proofs.Faultless.{any-refuted}

unfoldable pub names_below : ℕ → BreakState → Bool
names_below count (Index state) = nat_lt state count
names_below count (Intermediate state) = nat_lt state count
names_below count Break = true
names_below count Keep = true
names_below count NoMatch = true

names_no_past : (count : ℕ) (entry : BreakState) → NamesStatePast count entry → names_below count entry ≡ true → ⊥
unfolding names_below
names_no_past count (Index state) past passed = grind (arith, nat_tests)
names_no_past count (Intermediate state) past passed = grind (arith, nat_tests)
names_no_past count Break past passed = past
names_no_past count Keep past passed = past
names_no_past count NoMatch past passed = past

is_apart : BreakState → Bool
is_apart Break = true
is_apart NoMatch = true
is_apart Keep = false
is_apart (Index state) = false
is_apart (Intermediate state) = false

is_no_keep : (entry : BreakState) → (entry ≢ Break) × (entry ≢ NoMatch) → is_apart entry ≡ true → ⊥
unfolding is_apart
is_no_keep Break keeps passed = keeps.0 refl
is_no_keep NoMatch keeps passed = keeps.1 refl
is_no_keep Keep keeps passed = cc
is_no_keep (Index state) keeps passed = cc
is_no_keep (Intermediate state) keeps passed = cc

-- what the tests of a table's parts say
pub record Passes (t : PairTable) : Type 0 where
  pub some : nat_lt 0 t.property_count ≡ true
  pub square : length t.break_state_table ≡ t.property_count * t.property_count
  pub classes : list_all (λ class. nat_lt class t.property_count) (named_values t.property_table) ≡ true
  pub sot : nat_lt t.sot_property t.property_count ≡ true
  pub eot : nat_lt t.eot_property t.property_count ≡ true
  pub states : list_all (names_below t.property_count) t.break_state_table ≡ true

-- .. and that of its row for the text's start
abbrev StartsApart : PairTable → Type 0
StartsApart t = list_all (λ class. is_apart (entry_of t t.sot_property class)) (named_values t.property_table) ≡ true

pub faultless : (t : PairTable) → Passes t → IsFaultless (HasPairFault t)
faultless t passes TableSize (inl none) = let some = passes.some in grind (arith, nat_tests)
faultless t passes TableSize (inr other) = other passes.square
faultless t passes ClassOutOfRange any =
    any-refuted (λ class. t.property_count ≤ class) (λ class. nat_lt class t.property_count) (named_values t.property_table) passes.classes (λ class past passed. grind (arith, nat_tests)) any
faultless t passes StateOutOfRange (inl (inl past)) = let below = passes.sot in grind (arith, nat_tests)
faultless t passes StateOutOfRange (inl (inr past)) = let below = passes.eot in grind (arith, nat_tests)
faultless t passes StateOutOfRange (inr any) =
    any-refuted (NamesStatePast t.property_count) (names_below t.property_count) t.break_state_table passes.states (names_no_past t.property_count) any
faultless t passes Memory has = has
faultless t passes RangeOrder has = has
faultless t passes RangePast10FFFF has = has
faultless t passes StartRowKeeps has = has
faultless t passes ComplexItems has = has
faultless t passes ComplexBelow0100 has = has
faultless t passes ComplexClassNamed has = has
faultless t passes StateCount has = has
faultless t passes TransitionSize has = has
faultless t passes TransitionOutOfRange has = has
faultless t passes SymbolOutOfRange has = has
faultless t passes TooManyLookaheads has = has
faultless t passes LookaheadOutOfRange has = has
faultless t passes EndCycle has = has
faultless t passes Stalls has = has
faultless t passes MissingTailoring has = has

starts-no_keep : (t : PairTable) → StartsApart t → HasPairDataFault t None StartRowKeeps → ⊥
starts-no_keep t apart (class, inl named, keeps) =
    any-refuted (KeepsStart t) (λ class. is_apart (entry_of t t.sot_property class)) (named_values t.property_table) apart
    (λ class keeps passed. is_no_keep (entry_of t t.sot_property class) keeps passed) (any-contained (KeepsStart t) (named_values t.property_table) class named keeps)
starts-no_keep t apart (class, inr named, keeps) = named

-- no class that the table names is the complex one
abbrev IsPlain : PairTable → Type 0
IsPlain t = list_all (λ class. not (class == t.complex_property)) (named_values t.property_table) ≡ true

plain-faultless : (t : PairTable) → StartsApart t → IsPlain t → IsFaultless (HasPairDataFault t None)
plain-faultless t apart plain ClassOutOfRange (class, named, past) = named
plain-faultless t apart plain StartRowKeeps has = starts-no_keep t apart has
plain-faultless t apart plain ComplexItems (inl named) =
    any-refuted (λ class. class ≡ t.complex_property) (λ class. not (class == t.complex_property)) (named_values t.property_table) plain
    (λ class is passed. absurd (false≢true (ap not (sym (eq-eqb class t.complex_property is)) ∙ passed)))
    (any-contained (λ class. class ≡ t.complex_property) (named_values t.property_table) t.complex_property named refl)
plain-faultless t apart plain ComplexItems (inr named) = named
plain-faultless t apart plain Memory has = has
plain-faultless t apart plain RangeOrder has = has
plain-faultless t apart plain RangePast10FFFF has = has
plain-faultless t apart plain TableSize has = has
plain-faultless t apart plain StateOutOfRange has = has
plain-faultless t apart plain ComplexBelow0100 has = has
plain-faultless t apart plain ComplexClassNamed has = has
plain-faultless t apart plain StateCount has = has
plain-faultless t apart plain TransitionSize has = has
plain-faultless t apart plain TransitionOutOfRange has = has
plain-faultless t apart plain SymbolOutOfRange has = has
plain-faultless t apart plain TooManyLookaheads has = has
plain-faultless t apart plain LookaheadOutOfRange has = has
plain-faultless t apart plain EndCycle has = has
plain-faultless t apart plain Stalls has = has
plain-faultless t apart plain MissingTailoring has = has

clusters-pass : Passes cluster_table
unfolding names_below
clusters-pass = record { some = refl; square = refl; classes = refl; sot = refl; eot = refl; states = refl }

clusters-apart : StartsApart cluster_table
unfolding entry_of is_apart
clusters-apart = refl

sentences-pass : Passes sentence_table
unfolding names_below
sentences-pass = record { some = refl; square = refl; classes = refl; sot = refl; eot = refl; states = refl }

sentences-apart : StartsApart sentence_table
unfolding entry_of is_apart
sentences-apart = refl

words-pass : Passes word_table
unfolding names_below
words-pass = record { some = refl; square = refl; classes = refl; sot = refl; eot = refl; states = refl }

words-apart : StartsApart word_table
unfolding entry_of is_apart
words-apart = refl

pub clusters-sound : IsFaultless (HasPairDataFault cluster_table None)
clusters-sound = plain-faultless cluster_table clusters-apart refl

pub sentences-sound : IsFaultless (HasPairDataFault sentence_table None)
sentences-sound = plain-faultless sentence_table sentences-apart refl

pub clusters-never-rejected : (parts : PairTable) → parts ≡ cluster_table → (fault : DataError) → IsLowestFault (HasPairFault parts) fault → ⊥
clusters-never-rejected parts is fault lowest = faultless cluster_table clusters-pass fault (rw is at lowest.is_there)

pub sentences-never-rejected : (parts : PairTable) → parts ≡ sentence_table → (fault : DataError) → IsLowestFault (HasPairFault parts) fault → ⊥
sentences-never-rejected parts is fault lowest = faultless sentence_table sentences-pass fault (rw is at lowest.is_there)

pub words-never-rejected : (parts : PairTable) → parts ≡ word_table → (fault : DataError) → IsLowestFault (HasPairFault parts) fault → ⊥
words-never-rejected parts is fault lowest = faultless word_table words-pass fault (rw is at lowest.is_there)

-- as words the table has no fault
pub words-no_class_past : HasPairDataFault word_table None ClassOutOfRange → ⊥
words-no_class_past has = has.1

pub words-no_keep : HasPairDataFault word_table None StartRowKeeps → ⊥
words-no_keep has = starts-no_keep word_table words-apart has
