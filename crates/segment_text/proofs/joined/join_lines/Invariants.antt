-- What was written so far, and the text of what is left, are all of it.
use Rattle.std.proofs.Common.{◌≡◌, ◌++◌, [], length}
use Rattle.segment_text.specs.Joined.{joined, joined_after}
use Rattle.segment_text.proofs.joined.join_lines.Given as goal

abbrev pub invariant-loop-rest : goal.invariant-loop-rest
invariant-loop-rest l = l.paragraphs.items ++ joined_after l.line [] l.rest ≡ joined l.fn.text

abbrev pub decreases-loop-rest : goal.decreases-loop-rest
decreases-loop-rest l = length l.rest
