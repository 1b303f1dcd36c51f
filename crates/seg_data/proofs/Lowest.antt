-- The lowest of the faults, from checks in their order.
use Rattle.std.proofs.Common.{◌≡◌, ℕ, suc, ◌<◌, refl, subst, inl, inr, arith}
use Rattle.std.proofs.lemmas.Bool.{cases_lt}
use Rattle.seg_data.specs.declared.provider.DataError.{DataError}
use Rattle.seg_data.specs.declared.provider.DataError.TheVariants.{Memory, RangeOrder, RangePast10FFFF, TableSize, ClassOutOfRange, StateOutOfRange, StartRowKeeps, ComplexItems, ComplexBelow0100, ComplexClassNamed, StateCount, TransitionSize, TransitionOutOfRange, SymbolOutOfRange, TooManyLookaheads, LookaheadOutOfRange, EndCycle, Stalls, MissingTailoring}
use Rattle.seg_data.specs.Faults.{number_of, IsFaultless, IsLowestFault}

pub same_number : (a b : DataError) → number_of a ≡ number_of b → a ≡ b
same_number Memory Memory same = refl
same_number Memory b same = absurd (omega arith)
same_number RangeOrder RangeOrder same = refl
same_number RangeOrder b same = absurd (omega arith)
same_number RangePast10FFFF RangePast10FFFF same = refl
same_number RangePast10FFFF b same = absurd (omega arith)
same_number TableSize TableSize same = refl
same_number TableSize b same = absurd (omega arith)
same_number ClassOutOfRange ClassOutOfRange same = refl
same_number ClassOutOfRange b same = absurd (omega arith)
same_number StateOutOfRange StateOutOfRange same = refl
same_number StateOutOfRange b same = absurd (omega arith)
same_number StartRowKeeps StartRowKeeps same = refl
same_number StartRowKeeps b same = absurd (omega arith)
same_number ComplexItems ComplexItems same = refl
same_number ComplexItems b same = absurd (omega arith)
same_number ComplexBelow0100 ComplexBelow0100 same = refl
same_number ComplexBelow0100 b same = absurd (omega arith)
same_number ComplexClassNamed ComplexClassNamed same = refl
same_number ComplexClassNamed b same = absurd (omega arith)
same_number StateCount StateCount same = refl
same_number StateCount b same = absurd (omega arith)
same_number TransitionSize TransitionSize same = refl
same_number TransitionSize b same = absurd (omega arith)
same_number TransitionOutOfRange TransitionOutOfRange same = refl
same_number TransitionOutOfRange b same = absurd (omega arith)
same_number SymbolOutOfRange SymbolOutOfRange same = refl
same_number SymbolOutOfRange b same = absurd (omega arith)
same_number TooManyLookaheads TooManyLookaheads same = refl
same_number TooManyLookaheads b same = absurd (omega arith)
same_number LookaheadOutOfRange LookaheadOutOfRange same = refl
same_number LookaheadOutOfRange b same = absurd (omega arith)
same_number EndCycle EndCycle same = refl
same_number EndCycle b same = absurd (omega arith)
same_number Stalls Stalls same = refl
same_number Stalls b same = absurd (omega arith)
same_number MissingTailoring MissingTailoring same = refl
same_number MissingTailoring b same = absurd (omega arith)

number-below : (fault : DataError) → number_of fault < 20
number-below Memory = omega arith
number-below RangeOrder = omega arith
number-below RangePast10FFFF = omega arith
number-below TableSize = omega arith
number-below ClassOutOfRange = omega arith
number-below StateOutOfRange = omega arith
number-below StartRowKeeps = omega arith
number-below ComplexItems = omega arith
number-below ComplexBelow0100 = omega arith
number-below ComplexClassNamed = omega arith
number-below StateCount = omega arith
number-below TransitionSize = omega arith
number-below TransitionOutOfRange = omega arith
number-below SymbolOutOfRange = omega arith
number-below TooManyLookaheads = omega arith
number-below LookaheadOutOfRange = omega arith
number-below EndCycle = omega arith
number-below Stalls = omega arith
number-below MissingTailoring = omega arith

-- no fault with a number below this one is there
pub record NoneBelow (Has : DataError → Type 0) (number : ℕ) : Type 0 where
  pub absent : (fault : DataError) → number_of fault < number → Has fault → ⊥

pub none-below-more : (Has : DataError → Type 0) (fault : DataError) (number : ℕ) → number_of fault ≡ number
    → NoneBelow Has number → (Has fault → ⊥) → NoneBelow Has (suc number)
none-below-more Has fault number same below absent = record {
  absent = λ lower less has.
      elim (cases_lt (number_of lower) number) [
        | inl under ↦ below.absent lower under has
        | inr least ↦ absent (subst Has (same_number lower fault (omega arith)) has)
      ];
}

pub lowest-from : (Has : DataError → Type 0) (fault : DataError) → NoneBelow Has (number_of fault) → Has fault → IsLowestFault Has fault
lowest-from Has fault below has = record { is_there = has; lowest = below.absent }

pub faultless-from : (Has : DataError → Type 0) → NoneBelow Has 20 → IsFaultless Has
faultless-from Has below fault has = below.absent fault (number-below fault) has
