use Rattle.std.proofs.Common.{◌≡◌, ◌∙◌, refl, inl, inr}
use Rattle.seg_data.specs.Table.{named_values}
use Rattle.seg_data.proofs.Anywhere.{any-contained, contained-same}
use Rattle.seg_data.proofs.Ranges.{named-cases, named-from}
use Rattle.seg_data.proofs.named_values.names.Goals as goal

pub returns-else-default-value : goal.returns-else-default-value
returns-else-default-value c = (
  λ yes. contained-same (named_values c.args.table.now) c.args.value
      (named-from (λ named. named ≡ c.args.value) c.args.table.now (inr (rw (← c.ranges-else-default-value.ensures) (c.has_value.ensures.0 yes)))),
  λ there. elim (named-cases (λ named. named ≡ c.args.value) c.args.table.now (any-contained (λ named. named ≡ c.args.value) (named_values c.args.table.now) c.args.value there refl)) [
    | inl default ↦ absurd (c.if-default-value.false (c.default.ensures ∙ default))
    | inr range ↦ c.has_value.ensures.1 (rw c.ranges-else-default-value.ensures range)
  ],
)
