use Rattle.std.proofs.Common.{arith}
use Rattle.seg_data.proofs.Runs.{run-in, run-before}
use Rattle.seg_data.proofs.provider.table.runs.run_from.Goals as goal

pub returns-then-first-code_point-clause-run : goal.returns-then-first-code_point-clause-run
returns-then-first-code_point-clause-run c = run-in _ _ _ _ c.first_reaching-place.ensures c.if-place-ranges.true c.if-first-code_point.true

pub returns-else-first-code_point-clause-run : goal.returns-else-first-code_point-clause-run
returns-else-first-code_point-clause-run c =
    run-before _ _ _ _ _ c.requires c.first_reaching-place.ensures (λ _. omega (arith, c.if-first-code_point.false))

pub returns-else-place-ranges-clause-run : goal.returns-else-place-ranges-clause-run
returns-else-place-ranges-clause-run c =
    run-before _ _ _ _ _ c.requires c.first_reaching-place.ensures (λ within. absurd (omega (arith, within, c.if-place-ranges.false)))
