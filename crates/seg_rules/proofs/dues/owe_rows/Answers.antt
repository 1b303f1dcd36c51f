use Rattle.std.proofs.Common.{◌≡◌, ◌+◌, ◌-◌, ◌<◌, length, arith, refl, sym, ap, ◌∙◌, subst, drop}
use Rattle.seg_rules.specs.Check.{get}
use Rattle.seg_rules.specs.Given.{no_row}
use Rattle.seg_rules.specs.Claims.{IsPart}
use Rattle.seg_rules.proofs.Claims.{owed_by, owed-none, owed-step, get-map}
use Rattle.seg_rules.proofs.dues.owe_rows.Goals as goal

pub loop-i-init : goal.loop-i-init
loop-i-init c = (
  omega arith,
  λ rules due is last.
      subst (IsPart rules c.args.claim.now c.args.part) (sym (owed-none c.args.below c.args.rows.now c.args.lives.now due (length c.args.rows.now) refl)) last,
)

pub loop-i-preserved : goal.loop-i-preserved
loop-i-preserved c =
    let at = c.loop-i.i - 1 in
    let next : c.loop-i.i ≡ at + 1 = omega arith in
    let in_rows : at < length c.args.rows.now = omega arith in
    let in_lives : at < length c.args.lives.now = omega arith in (
      omega arith,
      λ rules due is last.
          subst (IsPart rules c.args.claim.now c.owe_row-owed.result) (sym (owed-step c.args.below c.args.rows.now c.args.lives.now due at _ in_rows in_lives))
          (c.owe_row-owed.ensures rules _ (get-map c.args.rows.now at _ in_rows ∙ ap (λ rows. get no_row rows at) is)
          (subst (λ n. IsPart rules c.args.claim.now c.loop-i.owed (owed_by c.args.below (drop n c.args.rows.now) (drop n c.args.lives.now) due)) next
          (c.loop-i.invariant.1 rules due is last))),
    )

pub returns : goal.returns
returns c = λ rules due is last.
    let none : c.loop-i.i ≡ 0 = omega arith in
    subst (λ n. IsPart rules c.args.claim.now c.loop-i.owed (owed_by c.args.below (drop n c.args.rows.now) (drop n c.args.lives.now) due)) none
    (c.loop-i.invariant.1 rules due is last)
