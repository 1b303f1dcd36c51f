-- All the bytes are.
use Rattle.std.proofs.Common.{length, take_all, sym, ◌∙◌}
use Rattle.std.proofs.Common.{arith}
use Rattle.segment_text.proofs.bare.well_formed.Goals as goal

pub returns-in-Ok : goal.returns-in-Ok
returns-in-Ok c = (length c.args.bytes.now, c.in-Ok.ensures.cases.0 ∙ sym (take_all (length c.args.bytes.now) c.args.bytes.now (omega arith)))
