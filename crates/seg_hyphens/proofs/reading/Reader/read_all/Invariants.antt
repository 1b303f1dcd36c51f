use Rattle.std.proofs.Common.{length}
use Rattle.seg_hyphens.proofs.Said.{IsReading}
use Rattle.seg_hyphens.proofs.reading.Reader.read_all.Given as goal

abbrev pub invariant-lines : goal.invariant-lines
invariant-lines l = IsReading l.initial.self l.self l.encoding l.text l.rest l.number

abbrev pub decreases-lines : goal.decreases-lines
decreases-lines l = length l.rest
