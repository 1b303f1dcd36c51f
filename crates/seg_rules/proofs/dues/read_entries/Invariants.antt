use Rattle.std.proofs.Common.{◌≤◌, length, drop}
use Rattle.seg_rules.specs.Given.{rules_of}
use Rattle.seg_rules.specs.Claims.{IsPart}
use Rattle.seg_rules.proofs.Claims.{read_by}
use Rattle.seg_rules.proofs.dues.read_entries.Given as goal

abbrev pub invariant-loop-i : goal.invariant-loop-i
invariant-loop-i l = (l.i ≤ length l.entries)
    × IsPart (rules_of l.rules) l.claim l.owed (read_by (rules_of l.rules) l.read.glues l.read.symbol (drop l.i l.entries) l.fn.otherwise)

abbrev pub decreases-loop-i : goal.decreases-loop-i
decreases-loop-i l = l.i
