use Rattle.std.proofs.Common.{inl, inr, sym, subst}
use Rattle.std.proofs.lemmas.Bool.{iff_false}
use Rattle.seg_data.proofs.Ranges.{named-cases, named-from}
use Rattle.seg_machine.specs.MachineFaults.{IsStray}
use Rattle.seg_machine.proofs.provider.checks.has_stray_value.Goals as goal

pub returns-else-is_stray : goal.returns-else-is_stray
returns-else-is_stray c =
    let P = IsStray c.args.count c.args.shift c.args.entries in (
      λ yes. named-from P c.args.symbols.now (inr (rw (← c.ranges-else-is_stray.ensures) (c.has_stray_range.ensures.0 yes))),
      λ any. elim (named-cases P c.args.symbols.now any) [
        | inl default ↦ absurd (iff_false c.is_stray.ensures c.if-is_stray.false (subst P (sym c.default.ensures) default))
        | inr range ↦ c.has_stray_range.ensures.1 (rw c.ranges-else-is_stray.ensures range)
      ],
    )
