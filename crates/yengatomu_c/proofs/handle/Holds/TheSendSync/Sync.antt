-- A `&` to it holds shares of the whole, which name no key.
use denote.Param.Send.{IsSync, part_keyless}
use Rattle.yengatomu_c.specs.contracts.handle.Holds.{the_row}
use Rattle.yengatomu_c.proofs.handle.Holds.TheSendSync.Send.{send}

pub sync : IsSync the_row
sync = record { shared = λ d b o κ q. part_keyless the_row send q d b o }
