use Rattle.std.proofs.Common.{◌≤◌, inl, inr, arith}
use Rattle.seg_data.proofs.Ranges.{named-cases, named-from}
use Rattle.seg_data.proofs.named_values.names_from.Goals as goal

pub returns-else-value-default : goal.returns-else-value-default
returns-else-value-default c = (
  λ yes. named-from (λ named. c.args.value ≤ named) c.args.table.now (inr (rw (← c.ranges-else-value-default.ensures) (c.has_value_from.ensures.0 yes))),
  λ any. elim (named-cases (λ named. c.args.value ≤ named) c.args.table.now any) [
    | inl default ↦ absurd (omega (arith, c.if-value-default.false, c.default.ensures, default))
    | inr range ↦ c.has_value_from.ensures.1 (rw c.ranges-else-value-default.ensures range)
  ],
)
