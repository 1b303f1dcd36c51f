-- All digits but the last four are kept.
use Rattle.std.proofs.Common.{◌≡◌, ℕ, List, ◌+◌, ◌-◌, ap, ◌∙◌, arith, rules, decimal, drop, length, take}
use Rattle.std.proofs.lemmas.Fmt.{length-decimal-le}
use Rattle.itoa.proofs.Decimal.{length_four}
use Rattle.segment_text.proofs.KeptDigits.{kept-digits}
use Rattle.segment_text.proofs.digits.Digits.put_far.Goals as goal

pub write_digits-start-requires : goal.write_digits-start-requires
write_digits-start-requires c = search (rules, length-decimal-le 20)

pub overflow_sub-self-then-number-ge-NEAR : goal.overflow_sub-self-then-number-ge-NEAR
overflow_sub-self-then-number-ge-NEAR c = omega (arith, length_four c.args.number c.if-number-ge-NEAR.true c.ranges.number.fits, c.write_digits-start.ensures.start)

pub invariant_of-self : goal.invariant_of-self
invariant_of-self c =
    let number : ℕ = c.args.number in
    let start : ℕ = c.write_digits-start.result in
    let long = length_four number c.if-number-ge-NEAR.true c.ranges.number.fits in
    let ends : start + length (decimal number) ≡ 20 = c.write_digits-start.ensures.start in
    let count : start + 16 - start ≡ 16 = omega arith in
    let digits =
    c.copy_from_slice.ensures.after
    ∙ ap (λ (n : ℕ). take n (drop start c.write_digits-start.new.buf)) count
    ∙ ap (λ (ys : List ℕ). take 16 ys) c.write_digits-start.ensures.written in (
      omega (arith, c.if-number-ge-NEAR.true),
      omega arith,
      omega (arith, long, ends),
      kept-digits number (20 - start - 4) c.copy_from_slice.new.self _ c.if-number-ge-NEAR.true c.ranges.number.fits (omega (arith, long, ends)) (omega (arith, long, ends)) digits,
    )
