-- At the end no boundary is left, and all of them were there at the start.
use Rattle.std.proofs.Common.{◌==◌, List, ◌++◌, append-nil, filter, sym, ap, ◌∙◌}
use Rattle.icu_segmenter.specs.Boundary.{Boundary}
use Rattle.icu_segmenter.specs.Boundaries.{offsets}
use Rattle.break_tests.proofs.segmenter.mandatory_breaks.Goals as goal

pub returns : goal.returns
returns c =
    let mandatory = λ (boundaries : List Boundary). offsets (filter (λ boundary. boundary.status == 1) boundaries) in
    sym (append-nil c.loop-place.places.items)
    ∙ ap (λ (left : List Boundary). c.loop-place.places.items ++ mandatory left) (sym c.in_default.ensures.steps.1.0)
    ∙ c.loop-place.invariant
    ∙ ap mandatory c.segment_str-lines.ensures.boundaries
