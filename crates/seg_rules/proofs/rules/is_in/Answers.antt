use Rattle.std.proofs.Common.{◌≡◌, ℕ, ◌<◌, ◌≤◌, ◌/◌, ◌%◌, ◌^◌, ◌==◌, false, arith, sym, ap, ◌∙◌, le-ltb, lit≤}
use Rattle.std.proofs.lemmas.Nat.{div_below, pow_pos}
use Rattle.std.proofs.Math.Nat.{pow-le-pow_right}
use Rattle.seg_rules.specs.RowRules.{has}
use Rattle.seg_rules.proofs.rules.is_in.Goals as goal

nothing-over : (class high : ℕ) → class < high → 0 < high → class / high ≡ 0
nothing-over class high less some =
    let below = div_below class high 1 some (omega (arith, less)) in
    omega (arith, below)

-- a class of 128 bits has no symbol from 128 on
has-none : (class symbol : ℕ) → class < 2 ^ 128 → 128 ≤ symbol → has class symbol ≡ false
has-none class symbol fits above =
    let wide : 2 ^ 128 ≤ 2 ^ symbol = pow-le-pow_right (lit≤ tt) above in
    ap (λ over. over % 2 == 1) (nothing-over class (2 ^ symbol) (omega (arith, wide, fits)) (pow_pos symbol))

pub returns-else-symbol-lt128 : goal.returns-else-symbol-lt128
returns-else-symbol-lt128 c = le-ltb _ _ c.if-symbol-lt128.false ∙ sym (has-none c.args.class c.args.symbol c.ranges.class.fits c.if-symbol-lt128.false)
