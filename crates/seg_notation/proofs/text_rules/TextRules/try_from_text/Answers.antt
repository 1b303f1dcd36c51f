use Rattle.std.proofs.Common.{◌≡◌, ◌+◌, ◌^◌, ◌<◌, ◌∙◌, ap, chars, length, arith, ℕ, IfOk, Result, Vec, Global, subst}
use Rattle.std.specs.declared.alloc.AllocError.{AllocError}
use Rattle.std.proofs.lemmas.Iterator.{items_from_collect, YieldsList-from_chars}
use Rattle.seg_notation.proofs.Lines.{next-lines, no-lines, number-of, within-line}
use Rattle.seg_notation.proofs.text_rules.TextRules.try_from_text.Goals as goal

pub loop-before-init : goal.loop-before-init
loop-before-init c =
    c.as_slice-rest.ensures.value
    ∙ subst (λ (made : Result (Vec ℕ Global) AllocError). IfOk made (λ v. v.items ≡ chars c.args.text.now)) c.in-Ok.is
    (items_from_collect c.collect.result c.collect.ensures.ran (YieldsList-from_chars c.args.text.now c.utf8.text c.chars.ensures.rest))
    ∙ no-lines _

pub loop-before-preserved : goal.loop-before-preserved
loop-before-preserved c = next-lines _ _ _ _ c.loop-before.invariant c.first_line.ensures.others

pub returns-in-Err-read-clause-column : goal.returns-in-Err-read-clause-column
returns-in-Err-read-clause-column c =
    let are : c.in-Ok.characters.items ≡ chars c.args.text.now =
    subst (λ (made : Result (Vec ℕ Global) AllocError). IfOk made (λ v. v.items ≡ chars c.args.text.now)) c.in-Ok.is
    (items_from_collect c.collect.result c.collect.ensures.ran (YieldsList-from_chars c.args.text.now c.utf8.text c.chars.ensures.rest)) in
    let few : length (chars c.args.text.now) < 2 ^ 63 = omega (arith, ap length are, c.in-Ok.characters.ok, c.in-Ok.characters.small) in
    let number : c.error_at-in-Err-read.result.line ≡ c.loop-before.before + 1 =
    number-of _ _ _ c.args.text.now c.utf8.text few c.line_ends-ends.ensures c.loop-before-test.true c.error_at-in-Err-read.ensures.line in (
      omega (arith, c.error_at-in-Err-read.ensures.column, c.column_of-column.ensures.some),
      within-line _ _ _ _ _ _ c.loop-before.invariant c.first_line.ensures.first number
          (omega (arith, c.error_at-in-Err-read.ensures.column, c.column_of-column.ensures.few)),
    )
