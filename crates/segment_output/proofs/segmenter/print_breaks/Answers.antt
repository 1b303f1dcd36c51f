-- Marks that aren't asked for may be any.
use Rattle.std.proofs.Common.{false, refl, ap, ◌∙◌}
use Rattle.segment_output.specs.Output.{look_of, lines_at, segments, shown_boundaries, shown_places, unmarked}
use Rattle.segment_output.proofs.BareLines.{printed-bare}
use Rattle.segment_output.proofs.MarkedPlaces.{shown-offsets}
use Rattle.segment_output.proofs.Printed.{lines-are_left}
use Rattle.segment_output.proofs.segmenter.print_breaks.Goals as goal

pub returns : goal.returns
returns g c =
    let bare = c.asks_marks.ensures c.if-asks_marks.false in
    let admits = g.L.Limit.holds c.args.found.limit in
    rw bare.0
    (printed-bare (λ status. g.M.HasMark.said (g.B.BreakIterator.mark status)) (look_of c.args.part) c.args.part.before c.args.part.bytes.now bare.1
    (shown_boundaries admits (g.B.BreakIterator.left c.args.found.breaks)) (shown_places admits c.into_places.result)
    (ap (shown_places admits) c.into_places.ensures ∙ shown-offsets admits (g.B.BreakIterator.left c.args.found.breaks)) _ _ _
    (lines-are_left (λ s. unmarked (shown_places (g.L.Limit.holds s.limit) s.places)) (segments false)
    (λ found. lines_at (look_of c.args.part) c.args.part.before c.args.part.bytes.now found) _ c.print_segments.new.places _ _ _ _ c.print_segments.ensures refl))
