use Rattle.std.proofs.Common.{◌∙◌, ap, sym}
use Rattle.seg_memo.specs.Configurations.{floor}
use Rattle.seg_memo.proofs.Held.{from-cell, last-found, last-some, picked-found, walked-cell, walked-left}
use Rattle.seg_memo.proofs.search.Scanner.scan_kept.Goals as goal

pub place_after-requires : goal.place_after-requires
place_after-requires g c κs within =
    let past = (picked-found c.outcome_from-outcome.ensures.walked c.outcome_from-outcome.ensures.read c.entry.ensures c.entered-outcome.ensures c.picked.ensures c.in-Some.is).0 in
    (within, (past, c.requires.1.1.1.1.1))

pub returns-in-Some-clause-scanned : goal.returns-in-Some-clause-scanned
returns-in-Some-clause-scanned g c =
    (picked-found c.outcome_from-outcome.ensures.walked c.outcome_from-outcome.ensures.read c.entry.ensures c.entered-outcome.ensures c.picked.ensures c.in-Some.is).1

pub unreachable-requires : goal.unreachable-requires
unreachable-requires g c =
    last-some c.outcome_from-outcome.ensures.walked c.outcome_from-outcome.ensures.read c.entry.ensures c.entered-outcome.ensures c.picked.ensures c.in_default.is
    (sym c.requires.1.1.1.0 ∙ c.in_default-last.is)

pub leave-requires : goal.leave-requires
leave-requires g c =
    let w = c.outcome_from-outcome.ensures.walked in
    from-cell _ _ g.named.last _ _ w.keeps.fit (c.floor-from.ensures ∙ ap (floor c.args.first.place) c.requires.1.1.1.0) w.comes.low w.comes.within

pub write-requires : goal.write-requires
write-requires g c =
    walked-cell (walked-left c.outcome_from-outcome.ensures.walked (c.floor-from.ensures ∙ ap (floor c.args.first.place) c.requires.1.1.1.0) c.leave.ensures)

pub returns-clause-scanned : goal.returns-clause-scanned
returns-clause-scanned g c =
    last-found
    (walked-left c.outcome_from-outcome.ensures.walked (c.floor-from.ensures ∙ ap (floor c.args.first.place) c.requires.1.1.1.0) c.leave.ensures)
    c.outcome_from-outcome.ensures.read c.entry.ensures c.entered-outcome.ensures c.picked.ensures c.in_default.is (sym c.requires.1.1.1.0 ∙ c.in-Some-last.is) c.write.ensures
