-- What holds a box may go to another thread: it owns nothing, or the box.
use mir.Raw.{raw}
use base.Shift.{Keyless}
use denote.Memory.{lone}
use denote.RawPtr.{Ptr}
use denote.Struct.Struct.{exits_of}
use denote.Struct.Owning.{shape, fields, to}
use denote.Param.Send.{IsSend, AllSend, owning_send, struct_send}
use Rattle.std.proofs.Crossing as heap
use Rattle.std.specs.Global.{Global}
use Rattle.std.specs.Prelude.{Bool, true, false, Option, Some, None}
use Rattle.std_alloc.proofs.SendSync.{quiet, lies}
use Rattle.std_heap.proofs.Global.TheSendSync as handle
use Rattle.yengatomu_c.specs.Owned.{owned}
use Rattle.yengatomu_segmenter.specs.contracts.segmenter.Segmenter as Seg
use Rattle.yengatomu_segmenter.proofs.segmenter.Segmenter.TheSendSync.{the_send as seg}
use Rattle.yengatomu_c.specs.contracts.handle.Holds.{the_row, the_type}

keyless : (alloc : Global) (at : Ptr) (lent : Bool) (o : Option Seg.the_row.Denot) → Keyless (owned alloc at lent o)
keyless alloc at lent None = tt
keyless alloc at true (Some x) = tt
keyless alloc at false (Some x) = (lies Seg.the_row seg at x, heap.frees.frees alloc (raw (lone Seg.the_row.mir)) at)

pub send : IsSend the_row
send =
    let all : AllSend (fields the_type) = (handle.the_field_send, tt) in
    owning_send the_type all (λ d. keyless d.alloc d.at d.lent d.held)
    (λ k. quiet (to the_type) (exits_of k (fields the_type)) ((struct_send (shape the_type) all).leaving k))
