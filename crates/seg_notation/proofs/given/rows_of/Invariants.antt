use Rattle.std.proofs.Common.{◌≡◌, map, take}
use Rattle.seg_rules.specs.Given as given
use Rattle.seg_notation.specs.Texts.{row_of}
use Rattle.seg_notation.proofs.given.rows_of.Given as goal

abbrev pub invariant-loop-rule : goal.invariant-loop-rule
invariant-loop-rule l = map given.row_of l.rows.items ≡ map row_of (take l.rule-index l.rules)
