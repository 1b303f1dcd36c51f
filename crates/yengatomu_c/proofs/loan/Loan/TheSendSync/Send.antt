-- A loan may go to another thread: it owns a `&` to what is in a box, and a share of a lifetime's token.
use base.Fml.{Lft, Share}
use base.Shift.{Keyless}
use denote.RawPtr.{Ptr}
use denote.Struct.Struct.{exits_of}
use denote.Struct.Owning.{shape, fields, to}
use denote.Param.Send.{IsSend, AllSend, owning_send, struct_send}
use Rattle.std.specs.Prelude.{Option, Some, None}
use Rattle.std_alloc.proofs.SendSync.{quiet, seen}
use Rattle.yengatomu_c.specs.Owned.{loan_owns}
use Rattle.yengatomu_segmenter.specs.contracts.segmenter.Segmenter as Seg
use Rattle.yengatomu_segmenter.proofs.segmenter.Segmenter.TheSendSync.{the_sync as seg}
use Rattle.yengatomu_c.specs.contracts.loan.Loan.{the_row, the_type}

keyless : (at : Ptr) (o : Option Seg.the_row.Denot) (life : Lft) (share : Share) → Keyless (loan_owns at o life share)
keyless at None life share = tt
keyless at (Some x) life share = (seen Seg.the_row seg at x life, tt)

pub send : IsSend the_row
send =
    let all : AllSend (fields the_type) = tt in
    owning_send the_type all (λ d. keyless d.at d.held d.life d.share)
    (λ k. quiet (to the_type) (exits_of k (fields the_type)) ((struct_send (shape the_type) all).leaving k))
