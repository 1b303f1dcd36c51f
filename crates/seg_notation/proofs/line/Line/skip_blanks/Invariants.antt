use Rattle.std.proofs.Common.{◌≡◌, length}
use Rattle.seg_notation.specs.Scanning.{past_blanks}
use Rattle.seg_notation.proofs.line.Line.skip_blanks.Given as goal

abbrev pub invariant-loop-self : goal.invariant-loop-self
invariant-loop-self l = past_blanks l.self.rest.now ≡ past_blanks l.initial.self.rest.now

abbrev pub decreases-loop-self : goal.decreases-loop-self
decreases-loop-self l = length l.self.rest.now
