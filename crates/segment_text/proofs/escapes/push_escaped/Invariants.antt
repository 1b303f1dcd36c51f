-- The lines so far, and then what is left with its escapes, are all.
use Rattle.std.proofs.Common.{◌≡◌, ◌++◌, length}
use Rattle.segment_text.specs.Escapes.{escaped}
use Rattle.segment_text.proofs.escapes.push_escaped.Given as goal

abbrev pub invariant-loop-found : goal.invariant-loop-found
invariant-loop-found l = l.lines.items ++ escaped l.rest ≡ l.fn.lines.items ++ escaped l.bytes

abbrev pub decreases-loop-found : goal.decreases-loop-found
decreases-loop-found l = length l.rest
