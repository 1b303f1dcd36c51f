use Rattle.std.proofs.Common.{◌≡◌, ◌≤◌, length, map, drop}
use Rattle.seg_rules.specs.RowRules.{RowRules, Due}
use Rattle.seg_rules.specs.Given.{row_of}
use Rattle.seg_rules.specs.Claims.{IsPart, rows_at}
use Rattle.seg_rules.proofs.Claims.{owed_by}
use Rattle.seg_rules.proofs.dues.owe_rows.Given as goal

abbrev pub invariant-loop-i : goal.invariant-loop-i
invariant-loop-i l = (l.i ≤ length l.rows)
    × ((rules : RowRules) (due : Due) → map row_of l.rows ≡ rows_at rules l.below → IsPart rules l.claim l.fn.part due
    → IsPart rules l.claim l.owed (owed_by l.below (drop l.i l.rows) (drop l.i l.lives) due))

abbrev pub decreases-loop-i : goal.decreases-loop-i
decreases-loop-i l = l.i
