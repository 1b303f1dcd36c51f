use Rattle.std.proofs.Common.{◌∙◌, ap, rules, sym}
use Rattle.seg_memo.specs.Grids.{known}
use Rattle.seg_memo.proofs.Held.{from-cell, named-left, named-unknown}
use Rattle.seg_memo.proofs.Ways.{first-cell, first-ends, first-known, first-room}
use Rattle.seg_memo.proofs.search.Scanner.outcome_from.Goals as goal

pub cell-requires : goal.cell-requires
cell-requires g c = first-cell c.requires.1.1.1.0

pub returns-in-Some-clause-walked : goal.returns-in-Some-clause-walked
returns-in-Some-clause-walked g c = first-known c.requires.1.1.1.0 (sym (c.known.ensures ∙ ap known c.cell.ensures) ∙ c.in-Some.is)

pub look_up-requires : goal.look_up-requires
look_up-requires g c = λ κs lives.
    let w = c.requires.1.1.1.0 in
    (lives.0, (lives.1, (w.keeps.fit.sound, (c.requires.1.1.0, (first-room w (sym (c.known.ensures ∙ ap known c.cell.ensures) ∙ c.in_default.is), (w.comes.within, search rules))))))

pub returns-in-Ends-clause-walked : goal.returns-in-Ends-clause-walked
returns-in-Ends-clause-walked g c =
    first-ends c.requires.1.1.1.0 (sym (c.known.ensures ∙ ap known c.cell.ensures) ∙ c.in_default.is) (sym c.look_up.ensures.value ∙ c.in-Ends.is) c.look_up.ensures.count

pub leave-requires : goal.leave-requires
leave-requires g c =
    let w = c.requires.1.1.1.0 in
    from-cell _ _ g.named.last _ _ w.keeps.fit c.requires.1.1.1.1.1 w.comes.low w.comes.within

pub go_forward-outcome-requires : goal.go_forward-outcome-requires
go_forward-outcome-requires g c κs within =
    let left = named-left c.requires.1.1.1.0 c.requires.1.1.1.1.1 c.leave.ensures in
    let unknown = left.1 ∙ named-unknown c.requires.1.1.1.0 (sym (c.known.ensures ∙ ap known c.cell.ensures) ∙ c.in_default.is) in
    let leads = sym c.look_up.ensures.value ∙ c.in-Leads.is in
    (within.0, (within.1, (c.look_up.ensures.read, ((_, c.look_up.ensures.count, left.0, unknown), ((leads, c.in-Leads.ensures.within), c.in-Leads.ensures.rest)))))
