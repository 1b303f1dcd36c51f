-- What `nth` gives stands at that place in the list of segments, and each segment begins where the text may be cut.
use Rattle.std.proofs.Common.{ℕ, List, sym, ap, ◌∙◌, option_map, slice_get}
use Rattle.icu_segmenter.specs.SegmentsLeft.{indices_left}
use Rattle.icu_segmenter.proofs.Callers.{nth-is_left, segment-boundary}
use Rattle.callers.specs.Fields.{before_segment}
use Rattle.callers.proofs.clusters.first_clusters.Goals as goal

pub range-requires-clause-end_boundary : goal.range-requires-clause-end_boundary
range-requires-clause-end_boundary c =
    let places = rw c.segment_str.ensures.source.1 at c.segment_indices.ensures.places in
    segment-boundary _ _ c.args.room (c.in-Some.place, c.in-Some.field-0-1.now) c.utf8.text places
    (sym (nth-is_left _ indices_left _ _ _ _ c.nth.ensures.ran) ∙ ap (option_map _) c.in-Some.is)

pub returns-in-Some : goal.returns-in-Some
returns-in-Some c =
    let all = rw (c.segment_str.ensures.source.1, c.segment_str.ensures.boundaries) at c.segment_indices.ensures.segments in
    c.range.ensures.value
    ∙ ap (before_segment c.args.text.now) (sym (ap (option_map _) c.in-Some.is) ∙ nth-is_left _ indices_left _ _ _ _ c.nth.ensures.ran)
    ∙ ap (λ (indices : List (ℕ × List ℕ)). before_segment c.args.text.now (slice_get indices c.args.room)) all

pub returns : goal.returns
returns c =
    let all = rw (c.segment_str.ensures.source.1, c.segment_str.ensures.boundaries) at c.segment_indices.ensures.segments in
    ap (before_segment c.args.text.now) (sym (ap (option_map _) c.in-None.is) ∙ nth-is_left _ indices_left _ _ _ _ c.nth.ensures.ran)
    ∙ ap (λ (indices : List (ℕ × List ℕ)). before_segment c.args.text.now (slice_get indices c.args.room)) all
