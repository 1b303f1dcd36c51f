use Rattle.std.proofs.Common.{sym, subst}
use Rattle.seg_rules.specs.RowRules.{onto}
use Rattle.seg_rules.specs.Claims.{HasVerdict, IsLast, IsPart, reading_of}
use Rattle.seg_rules.proofs.Claims.{decided-last}
use Rattle.seg_rules.proofs.dues.put_reading.Goals as goal

pub returns-in-Decides : goal.returns-in-Decides
unfolding onto
returns-in-Decides c = λ rules due has last.
    subst (λ reading. IsLast rules c.args.claim.now (record { matched = 0; otherwise = c.in-Decides.verdict }) (onto (reading_of rules reading) due)) (sym c.in-Decides.is) (decided-last rules c.args.claim.now c.in-Decides.verdict)

pub returns-in-Stays : goal.returns-in-Stays
unfolding onto
returns-in-Stays c = λ rules due has last.
    subst (λ reading. IsPart rules c.args.claim.now c.put_if.result (onto (reading_of rules reading) due)) (sym c.in-Stays.is)
    (c.put_if.ensures rules due (subst (HasVerdict rules) c.in-Stays.is has) last)

pub returns-in-Drops : goal.returns-in-Drops
unfolding onto
returns-in-Drops c = λ rules due has last.
    subst (λ reading. IsPart rules c.args.claim.now c.args.part (onto (reading_of rules reading) due)) (sym c.in-Drops.is) last
