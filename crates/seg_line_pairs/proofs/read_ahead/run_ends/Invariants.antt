use Rattle.std.proofs.Common.{length}
use Rattle.seg_line_pairs.proofs.RunEnds.{IsRunning}
use Rattle.seg_line_pairs.proofs.read_ahead.run_ends.Given as goal

abbrev pub invariant-loop-code_point : goal.invariant-loop-code_point
invariant-loop-code_point g l = record { running : IsRunning (g.T.CodePointTest.passes l.test) (g.I.Cursor.text l.rest) (g.I.Cursor.text l.ahead) l.last }

abbrev pub decreases-loop-code_point : goal.decreases-loop-code_point
decreases-loop-code_point g l = length (g.I.Cursor.text l.ahead).items
