-- The faults of a line machine with its tailoring.
use Rattle.std.proofs.Common.{◌≡◌, Option, inl, inr}
use Rattle.seg_data.specs.declared.provider.DataError.{DataError}
use Rattle.seg_machine.specs.Machine.{Machine, MachineTailoring, with_tailoring}
use Rattle.seg_data.specs.Faults.{IsFaultless, IsLowestFault}
use Rattle.seg_machine.specs.MachineFaults.{HasComplexBelow0100, HasTailoringFault}
use Rattle.seg_lines.specs.Lines.{HasFaultWith}
use Rattle.std.specs.Prelude.{Some}

pub with-faultless : (m : Machine) (tailoring : Option MachineTailoring) → (HasComplexBelow0100 (with_tailoring m tailoring) → ⊥)
    → IsFaultless (HasTailoringFault m tailoring) → IsFaultless (HasFaultWith m (Some tailoring))
with-faultless m tailoring none faultless fault (inl has) = faultless fault has
with-faultless m tailoring none faultless fault (inr has) = none has.1

-- where the tailoring is looked at as it is borrowed
pub borrowed-alike : (m : Machine) (borrowed tailoring : Option MachineTailoring) → borrowed ≡ tailoring
    → HasComplexBelow0100 (with_tailoring m tailoring) → HasComplexBelow0100 (with_tailoring m borrowed)
borrowed-alike m borrowed tailoring same has = rw same has

pub with-lowest : (m : Machine) (tailoring : Option MachineTailoring) (fault : DataError) → (HasComplexBelow0100 (with_tailoring m tailoring) → ⊥)
    → IsLowestFault (HasTailoringFault m tailoring) fault → IsLowestFault (HasFaultWith m (Some tailoring)) fault
with-lowest m tailoring fault none lowest = record {
  is_there = inl lowest.is_there;
  lowest = λ lower less has. elim has [ inl other ↦ lowest.lowest lower less other | inr complex ↦ none complex.1 ];
}
