use Rattle.std.proofs.Common.{length}
use Rattle.seg_text.proofs.Passing.{IsPassing}
use Rattle.seg_text.proofs.prefixes.prefix_end.Given as goal

abbrev pub invariant-loop-code_point : goal.invariant-loop-code_point
invariant-loop-code_point g l = record { passing : IsPassing (g.T.CodePointTest.passes l.test) (g.I.Cursor.text l.rest) (g.I.Cursor.text l.ahead) }

abbrev pub decreases-loop-code_point : goal.decreases-loop-code_point
decreases-loop-code_point g l = length (g.I.Cursor.text l.ahead).items
