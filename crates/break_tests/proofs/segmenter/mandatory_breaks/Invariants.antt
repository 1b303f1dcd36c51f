-- The places so far and those of the mandatory breaks that are left make up all of them.
use Rattle.std.proofs.Common.{◌≡◌, ◌==◌, ◌++◌, filter, length}
use Rattle.icu_segmenter.specs.Boundaries.{offsets}
use Rattle.icu_segmenter.specs.Lines.{lines_left, line_places}
use Rattle.break_tests.proofs.segmenter.mandatory_breaks.Given as goal

abbrev pub invariant-loop-place : goal.invariant-loop-place
invariant-loop-place l =
    l.places.items ++ offsets (filter (λ boundary. boundary.status == 1) (lines_left l.lines))
    ≡ offsets (filter (λ boundary. boundary.status == 1) (lines_left l.initial.lines))

abbrev pub decreases-loop-place : goal.decreases-loop-place
decreases-loop-place l = length (line_places l.lines)
