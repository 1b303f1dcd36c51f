use Rattle.std.proofs.Common.{ℕ, List, sym, ap₂, ◌∙◌}
use Rattle.seg_text.specs.declared.boundary.Boundary.{Boundary}
use Rattle.seg_text.specs.Boundaries.{boundaries_in}
use Rattle.seg_segments.proofs.cursor.suppressed.SuppressingSegmenterSegmenterOf.breaks.Goals as goal

pub returns-clause-found : goal.returns-clause-found
returns-clause-found g c =
    c.segment.ensures.boundaries
    ∙ sym (ap₂ (λ (find : List ℕ → List Boundary) (units : List ℕ). boundaries_in find (g.I.Source.decode units)) c.segment.ensures.found c.segment.ensures.whole)
