-- What a slot owns of a box, and what is lent of it.
use base.Fml.{Fml, Lft, Share, ftrue, fsep, flft}
use base.Stored.{Coded}
use base.SetCodes.{coded_share}
use denote.RawPtr.{Ptr}
use denote.Struct.Lending.{lent_at}
use Rattle.std.specs.Prelude.{Bool, true, false, Option, Some, None}
use Rattle.std.specs.Box.Ownership.{box_owns}
use Rattle.std.specs.Coded.{coded_option}
use Rattle.std.specs.Global.{Global}
use Rattle.std_heap.specs.contracts.GlobalAllocator.TheImpl.{ghosts}
use Rattle.yengatomu_segmenter.specs.contracts.segmenter.Segmenter.{the_row}

-- nothing, where there is no box or it is lent; else the box
abbrev pub owned : Global → Ptr → Bool → Option the_row.Denot → Fml
owned alloc at lent None = ftrue
owned alloc at true (Some value) = ftrue
owned alloc at false (Some value) = box_owns (ghosts.dealloc_token alloc) the_row at value

-- a `&` to the value at the pointer, for the lifetime, and a share of that lifetime's token
abbrev pub lease_owns : Ptr → the_row.Denot → Lft → Share → Fml
lease_owns at value life share = fsep (lent_at the_row at value life) (flft life share)

-- what is lent at a pointer, or nothing
abbrev pub loan_owns : Ptr → Option the_row.Denot → Lft → Share → Fml
loan_owns at None life share = ftrue
loan_owns at (Some value) life share = lease_owns at value life share

abbrev pub lease_shares : Ptr → the_row.Denot → Lft → Fml
lease_shares = lent_at the_row

abbrev pub value_coded : Coded the_row.Denot
value_coded = the_row.coded

abbrev pub held_coded : Coded (Option the_row.Denot)
held_coded = coded_option the_row.coded

abbrev pub share_coded : Coded Share
share_coded = coded_share

abbrev pub is_held : {X : Type 0} → Option X → Bool
is_held None = false
is_held (Some _) = true
