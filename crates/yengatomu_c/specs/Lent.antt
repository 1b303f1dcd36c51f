-- A loan, and the lease of what is held for it.
use Rattle.std.specs.Prelude.{◌≡◌, Some}
use Rattle.yengatomu_c.specs.declared.loan.Loan.{Loan}
use Rattle.yengatomu_c.specs.declared.loan.Lease.{Lease}
use Rattle.yengatomu_c.specs.declared.slot.Slot.{Slot}

-- the loan that a lease goes back to
abbrev pub loan_of : Lease → Loan
loan_of lease = record { at = lease.at; held = Some lease.segmenter; life = lease.life; share = lease.share }

-- the loan is of what the slot holds
abbrev pub IsLentBy : Slot → Loan → Type 0
IsLentBy slot loan = (slot.handle.at ≡ loan.at) × (slot.handle.holds.held ≡ loan.held)
