use Rattle.std.proofs.Common.{◌<◌, inl, inr}
use Rattle.std.proofs.lemmas.Bool.{cases_lt}
use Rattle.std.proofs.lemmas.Nat.{le_or_l}
use Rattle.seg_machine.proofs.Sets.{keep-below, bit-made}
use Rattle.seg_machine.proofs.provider.stalls.keep_named.Goals as goal

pub returns-in-Some-clause-in_range : goal.returns-in-Some-clause-in_range
returns-in-Some-clause-in_range c =
    let none = rw c.in-Some.is at c.requires.named in
    let few : c.in-Some.lookahead < 8 = elim (cases_lt c.in-Some.lookahead 8) [ inl less ↦ less | inr past ↦ absurd (none past) ] in
    rw (bit-made c.in-Some.lookahead few) (keep-below c.args.kept c.in-Some.lookahead c.ranges.kept.fits few)

pub returns-in-Some-clause-grows : goal.returns-in-Some-clause-grows
returns-in-Some-clause-grows c = le_or_l c.args.kept _
