-- The ends so far and those that are left make up all of them.
use Rattle.std.proofs.Common.{◌≡◌, ◌++◌, length}
use Rattle.icu_segmenter.specs.Lines.{lines_left}
use Rattle.callers.specs.LineEnds.{ends_after, line_ends}
use Rattle.callers.proofs.lines.filled_lines.Given as goal

abbrev pub invariant-loop-place : goal.invariant-loop-place
invariant-loop-place l = l.ends.items ++ ends_after l.width l.begin l.reached l.must (lines_left l.breaks) ≡ line_ends l.width (lines_left l.initial.breaks)

abbrev pub decreases-loop-place : goal.decreases-loop-place
decreases-loop-place l = length (lines_left l.breaks)
