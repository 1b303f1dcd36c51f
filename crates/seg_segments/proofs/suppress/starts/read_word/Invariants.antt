use Rattle.std.proofs.Common.{length}
use Rattle.seg_segments.proofs.Reading.{IsOwed}
use Rattle.seg_segments.proofs.suppress.starts.read_word.Given as goal

abbrev pub invariant-loop-rest : goal.invariant-loop-rest
invariant-loop-rest g l = IsOwed (g.D.WordCursor.tails l.fn.words) l.place (g.I.Cursor.text l.fn.text).items l.ended (g.D.WordCursor.tails l.words) (g.I.Cursor.text l.rest).items

abbrev pub decreases-loop-rest : goal.decreases-loop-rest
decreases-loop-rest g l = length (g.I.Cursor.text l.rest).items
