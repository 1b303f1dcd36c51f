-- Abbreviations leave line feeds as they are.
use Rattle.std.proofs.Common.{ℕ, List, subst}
use Rattle.icu_segmenter.specs.Boundary.{Boundary}
use Rattle.icu_segmenter.specs.Boundaries.{boundaries_in}
use Rattle.icu_segmenter.specs.Decoding.{utf8}
use Rattle.icu_segmenter.specs.LineBreaks.{LineRules, line_boundaries_of}
use Rattle.icu_segmenter.specs.NearBoundaries.{line_feed}
use Rattle.icu_segmenter.specs.Rules.{PartsBehind}
use Rattle.segment_output.proofs.segmenter.TextSegmenter.has_parts.Goals as goal

pub returns-in-Suppressing : goal.returns-in-Suppressing
returns-in-Suppressing c =
    rw c.in-Suppressing.is
    (λ is.
    subst (λ (find : List ℕ → List Boundary). PartsBehind (λ bytes. boundaries_in find (utf8 bytes)) line_feed) c.suppressing.ensures (c.parts_behind_line_feeds-in-Suppressing.ensures.utf8 is))

pub returns-in-Ruled : goal.returns-in-Ruled
returns-in-Ruled c =
    rw c.in-Ruled.is
    (λ is. subst (λ (rules : LineRules). PartsBehind (λ bytes. line_boundaries_of rules (utf8 bytes)) line_feed) c.anywhere.ensures (c.parts_behind_line_feeds-in-Ruled.ensures.utf8 is))
