-- It is what some bytes from there on begin with.
use Rattle.std.proofs.Common.{take, rules}
use Rattle.segment_text.proofs.BareStretches.{bare-stretch}
use Rattle.segment_text.proofs.bare.bare_stretch_after.Goals as goal

pub returns : goal.returns
returns c =
    let (n, near-is) = c.near-near.ensures in
    let (k, found-is) = c.well_formed-2.ensures in
    bare-stretch c.args.text.now c.near-near.result.now (take c.bare_len.result c.near-near.result.now) c.well_formed-2.result.now c.args.from n c.bare_len.result k
    near-is (search rules) found-is c.bare_len.ensures.bare
