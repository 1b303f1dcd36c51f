use Rattle.std.proofs.Common.{sym, ap, ◌∙◌, subst}
use Rattle.seg_rules.specs.RowRules.{put, verdict_of_entry}
use Rattle.seg_rules.specs.Given.{row_of, owed_of}
use Rattle.seg_rules.specs.Claims.{IsLast, IsPart}
use Rattle.seg_rules.proofs.Claims.{decided-last, owes-nothing, owes-verdict, owes-entry}
use Rattle.seg_rules.proofs.dues.owe_row.Goals as goal

pub returns-then-not-is_full : goal.returns-then-not-is_full
returns-then-not-is_full c = λ rules due is last.
    subst (IsPart rules c.args.claim.now c.args.part)
    (sym (owes-nothing c.args.number.below _ (row_of c.args.row.now) due (sym c.is_full.ensures ∙ c.if-not-is_full.true))) last

pub returns-then-is_full : goal.returns-then-is_full
returns-then-is_full c = λ rules due is last.
    subst (IsLast rules c.args.claim.now _)
    (owes-verdict c.args.number.below _ (row_of c.args.row.now) c.in_ok-start.start due (sym c.is_full.ensures ∙ c.if-not-is_full.false)
    c.in_ok-start.ensures.value (sym c.is_full-2.ensures ∙ c.if-is_full.true)) (decided-last rules c.args.claim.now c.args.row.now.verdict)

pub returns : goal.returns
returns c = λ rules due is last.
    let entry = c.entry.ensures rules ∙ ap (λ row. owed_of c.args.number.below row c.in_ok-start.start) (sym is) in
    subst (IsPart rules c.args.claim.now c.put_if.result)
    (ap (λ entry. put entry due) entry ∙ owes-entry c.args.number.below _ (row_of c.args.row.now) c.in_ok-start.start due (sym c.is_full.ensures ∙ c.if-not-is_full.false)
    c.in_ok-start.ensures.value (sym c.is_full-2.ensures ∙ c.if-is_full.false))
    (c.put_if.ensures rules due (sym (ap verdict_of_entry entry)) last)
