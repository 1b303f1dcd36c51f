-- Pair tables whose parts pass computed tests have no fault, so nothing but a lack of memory refuses them.
use Rattle.std.proofs.Common.{◌≡◌, ℕ, ◌*◌, ◌<◌, ◌⊎◌, Bool, true, nat_lt, length, arith, inl, inr}
use Rattle.std.specs.Prelude.{Result, Ok, Err, IfErr}
use Rattle.std.proofs.lemmas.Bool.{ltb-true}
use Rattle.seg_data.specs.declared.provider.DataError.{DataError}
use Rattle.seg_data.specs.declared.provider.DataError.TheVariants.{Memory, RangeOrder, RangePast10FFFF, TableSize, ClassOutOfRange, StateOutOfRange, StartRowKeeps, ComplexItems, ComplexBelow0100, ComplexClassNamed, StateCount, TransitionSize, TransitionOutOfRange, SymbolOutOfRange, TooManyLookaheads, LookaheadOutOfRange, EndCycle, Stalls, MissingTailoring}
use Rattle.icu_segmenter.specs.Faults.{HasRangeFault}
use Rattle.icu_segmenter.specs.Table.{named_values}
use Rattle.seg_pairs.specs.declared.provider.pairs.BreakState.{BreakState}
use Rattle.seg_pairs.specs.declared.provider.pairs.BreakState.TheVariants.{Break, Keep, NoMatch, Intermediate, Index}
use Rattle.icu_segmenter.specs.PairData.{HasPairFault, NamesStatePast}
use Rattle.icu_segmenter.specs.PairTable.{PairTable}
use Rattle.icu_segmenter_uax29.proofs.Faultless.{is_range, no-range-fault, rises}
use Rattle.icu_segmenter_uax29.proofs.Lists.{every, any-passes}

-- the state that an entry names is below their number
abbrev is_entry : ℕ → BreakState → Bool
is_entry count (Index state) = nat_lt state count
is_entry count (Intermediate state) = nat_lt state count
is_entry count Break = true
is_entry count Keep = true
is_entry count NoMatch = true

abbrev is_class : ℕ → ℕ → Bool
is_class count class = nat_lt class count

-- what is computed of a pair table
pub record IsSound (t : PairTable) : Type 0 where
  pub ranges_are : every is_range t.property_table.ranges ≡ true
  pub ranges_rise : rises t.property_table.ranges ≡ true
  pub classes_are : every (is_class t.property_count) (named_values t.property_table) ≡ true
  pub entries_are : every (is_entry t.property_count) t.break_state_table ≡ true
  pub size : length t.break_state_table ≡ t.property_count * t.property_count
  pub start_is : t.sot_property < t.property_count
  pub end_is : t.eot_property < t.property_count

no-state-past : (count : ℕ) (entry : BreakState) → is_entry count entry ≡ true → NamesStatePast count entry → ⊥
no-state-past count (Index state) is past = let below = ltb-true state count is in omega (arith, past)
no-state-past count (Intermediate state) is past = let below = ltb-true state count is in omega (arith, past)
no-state-past count Break is past = past
no-state-past count Keep is past = past
no-state-past count NoMatch is past = past

module _ (t : PairTable) (is : IsSound t) where
  no-pair-fault : (fault : DataError) → HasPairFault t fault → ⊥
  no-pair-fault TableSize (inl none) = let start = is.start_is in omega (arith, none)
  no-pair-fault TableSize (inr unequal) = unequal is.size
  no-pair-fault ClassOutOfRange any =
      let (class, passes, past) = any-passes (is_class t.property_count) (named_values t.property_table) is.classes_are any in
      let below = ltb-true class t.property_count passes in omega (arith, past)
  no-pair-fault StateOutOfRange (inl (inl start)) = let below = is.start_is in omega (arith, start)
  no-pair-fault StateOutOfRange (inl (inr end)) = let below = is.end_is in omega (arith, end)
  no-pair-fault StateOutOfRange (inr any) =
      let (entry, passes, past) = any-passes (is_entry t.property_count) t.break_state_table is.entries_are any in no-state-past t.property_count entry passes past
  no-pair-fault Memory h = h
  no-pair-fault RangeOrder h = h
  no-pair-fault RangePast10FFFF h = h
  no-pair-fault StartRowKeeps h = h
  no-pair-fault ComplexItems h = h
  no-pair-fault ComplexBelow0100 h = h
  no-pair-fault ComplexClassNamed h = h
  no-pair-fault StateCount h = h
  no-pair-fault TransitionSize h = h
  no-pair-fault TransitionOutOfRange h = h
  no-pair-fault SymbolOutOfRange h = h
  no-pair-fault TooManyLookaheads h = h
  no-pair-fault LookaheadOutOfRange h = h
  no-pair-fault EndCycle h = h
  no-pair-fault Stalls h = h
  no-pair-fault MissingTailoring h = h

  memory-from : (fault : DataError) → (fault ≡ Memory) ⊎ HasRangeFault t.property_table.ranges fault ⊎ HasPairFault t fault → fault ≡ Memory
  memory-from fault (inl memory) = memory
  memory-from fault (inr (inl range)) = absurd (no-range-fault t.property_table.ranges is.ranges_are is.ranges_rise fault range)
  memory-from fault (inr (inr other)) = absurd (no-pair-fault fault other)

  -- Law: so nothing but memory can be missing
  pub memory-alone : {X : Type 0} (made : Result X DataError)
      → IfErr made (λ fault. (fault ≡ Memory) ⊎ HasRangeFault t.property_table.ranges fault ⊎ HasPairFault t fault)
      → IfErr made (λ fault. fault ≡ Memory)
  memory-alone (Ok made) h = h
  memory-alone (Err fault) h = memory-from fault h
