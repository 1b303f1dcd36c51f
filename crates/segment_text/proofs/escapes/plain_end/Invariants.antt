-- No byte so far is.
use Rattle.std.proofs.Common.{◌-◌, length}
use Rattle.segment_text.specs.Escapes.{ArePlain}
use Rattle.segment_text.proofs.escapes.plain_end.Given as goal

abbrev pub invariant-loop-to : goal.invariant-loop-to
invariant-loop-to l = ArePlain l.text l.from l.to

abbrev pub decreases-loop-to : goal.decreases-loop-to
decreases-loop-to l = length l.text - l.to
