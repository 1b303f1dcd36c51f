-- No byte so far is, if none was found.
use Rattle.std.proofs.Common.{◌+◌, IsTrue}
use Rattle.segment_text.specs.Bare.{AreAllBare}
use Rattle.segment_text.proofs.bare.is_bare_run.Given as goal

abbrev pub invariant-loop-offset : goal.invariant-loop-offset
invariant-loop-offset l = IsTrue l.bare → AreAllBare l.text l.from (l.from + l.offset)
