-- No character that is escaped begins before the place.
use Rattle.std.proofs.Common.{◌≡◌, ◌++◌, take, drop}
use Rattle.segment_text.specs.Escapes.{escaped}
use Rattle.segment_text.proofs.escapes.first_escaped.Given as goal

abbrev pub invariant-loop-start : goal.invariant-loop-start
invariant-loop-start l = escaped l.bytes ≡ take l.start l.bytes ++ escaped (drop l.start l.bytes)
