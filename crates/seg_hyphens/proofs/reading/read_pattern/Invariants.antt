use Rattle.seg_hyphens.proofs.Said.{IsPartly}
use Rattle.seg_hyphens.proofs.reading.read_pattern.Given as goal

abbrev pub invariant-loop-byte : goal.invariant-loop-byte
invariant-loop-byte l = IsPartly l.line l.letters.items l.digits.items l.digit l.byte-index
