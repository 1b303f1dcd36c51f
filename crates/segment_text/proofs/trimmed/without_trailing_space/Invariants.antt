-- What was left out so far is trailing white space.
use Rattle.std.proofs.Common.{◌≡◌, length}
use Rattle.segment_text.specs.Trimmed.{without_trailing_space}
use Rattle.segment_text.proofs.trimmed.without_trailing_space.Given as goal

abbrev pub invariant-loop-shown : goal.invariant-loop-shown
invariant-loop-shown l = without_trailing_space l.shown ≡ without_trailing_space l.line

abbrev pub decreases-loop-shown : goal.decreases-loop-shown
decreases-loop-shown l = length l.shown
