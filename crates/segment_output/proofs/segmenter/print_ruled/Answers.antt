-- The iterator has all its boundaries left.
use Rattle.std.proofs.Common.{List, ap}
use Rattle.icu_segmenter.specs.Boundary.{Boundary}
use Rattle.icu_segmenter.specs.TextSegments.{marked}
use Rattle.segment_output.specs.Output.{look_of, lines_at, segments, shown_boundaries}
use Rattle.segment_output.specs.declared.marks.Mark.TheVariants.{Rule}
use Rattle.segment_output.proofs.Printed.{lines-are_left}
use Rattle.segment_output.proofs.segmenter.print_ruled.Goals as goal

pub returns : goal.returns
returns g c =
    lines-are_left (λ s. marked (λ status. Rule (g.B.BreakIterator.mark status)) (shown_boundaries (g.L.Limit.holds s.limit) s.breaks)) (segments c.args.alone)
    (λ found. lines_at (look_of c.args.part) c.args.part.before c.args.part.bytes.now found) _ c.print_segments.new.places _ _ _ _ c.print_segments.ensures
    (ap (λ (left : List Boundary). marked (λ status. Rule (g.B.BreakIterator.mark status)) (shown_boundaries (g.L.Limit.holds c.args.found.limit) left)) c.new.ensures)
