-- The iterator has all the boundaries left when it is made.
use Rattle.std.proofs.Common.{ap, length, List, subst, ◌∙◌}
use Rattle.icu_segmenter.specs.Boundary.{Boundary}
use Rattle.icu_segmenter.specs.Boundaries.{boundaries_in, IsCover}
use Rattle.icu_segmenter.specs.Decoding.{utf8}
use Rattle.segment_output.proofs.segmenter.TextSegmenter.cover.Goals as goal

pub returns-in-Suppressing : goal.returns-in-Suppressing
returns-in-Suppressing c =
    rw c.in-Suppressing.is
    (subst (λ (boundaries : List Boundary). IsCover 0 (length c.args.bytes.now) boundaries)
    (c.segment_utf8-in-Suppressing.ensures.boundaries ∙ ap (λ find. boundaries_in find (utf8 c.args.bytes.now)) c.suppressing.ensures) c.segment_utf8-in-Suppressing.ensures.cover)
