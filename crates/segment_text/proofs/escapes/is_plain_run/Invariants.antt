-- No byte so far is, if none was found.
use Rattle.std.proofs.Common.{◌+◌, IsTrue}
use Rattle.segment_text.specs.Escapes.{ArePlain}
use Rattle.segment_text.proofs.escapes.is_plain_run.Given as goal

abbrev pub invariant-loop-offset : goal.invariant-loop-offset
invariant-loop-offset l = IsTrue l.plain → ArePlain l.text l.from (l.from + l.offset)
