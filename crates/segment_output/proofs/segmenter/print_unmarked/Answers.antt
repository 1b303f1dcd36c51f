-- Boundaries of which nothing is said.
use Rattle.std.proofs.Common.{false}
use Rattle.segment_output.specs.Output.{look_of, lines_at, segments, shown_places, unmarked}
use Rattle.segment_output.proofs.MarkedPlaces.{nothing-said}
use Rattle.segment_output.proofs.Printed.{lines-are_left}
use Rattle.segment_output.proofs.segmenter.print_unmarked.Goals as goal

pub returns : goal.returns
returns g c =
    lines-are_left (λ s. unmarked (shown_places (g.L.Limit.holds s.limit) s.places)) (segments false)
    (λ found. lines_at (look_of c.args.part) c.args.part.before c.args.part.bytes.now found) _ c.print_segments.new.places _ _ _ _ c.print_segments.ensures
    (nothing-said (g.L.Limit.holds c.args.found.limit) (g.B.BreakIterator.left c.args.found.breaks) _ c.into_places.ensures)
