-- The segment that ends at the place is one more, if it is shown and one begins before it.
use Rattle.std.proofs.Common.{◌+◌, ap, sym, ◌∙◌}
use Rattle.std.specs.Option.{is_some}
use Rattle.segment_output.proofs.Segments.{counted-first, counted-more, last-more, segments-same}
use Rattle.segment_output.proofs.output.count_segments.Goals as goal

pub places-preserved-then-not-has_begun : goal.places-preserved-then-not-has_begun
places-preserved-then-not-has_begun g c =
    let none = c.places.invariant.0 ∙ c.if-not-has_begun.true in
    (ap is_some (last-more c.places.yielded c.in-Some.end), rw (counted-first c.args.alone c.places.yielded c.in-Some.end none) c.places.invariant.1)

pub places-preserved-then-is_shown : goal.places-preserved-then-is_shown
places-preserved-then-is_shown g c =
    let some = c.places.invariant.0 ∙ c.if-not-has_begun.false in (
      ap is_some (last-more c.places.yielded c.in-Some.end) ∙ sym c.if-not-has_begun.false,
      c.in_ok-count.ensures ∙ ap (λ n. n + 1) c.places.invariant.1
          ∙ sym (counted-more c.args.alone c.places.yielded c.in-Some.end some (sym c.is_shown.ensures ∙ c.if-is_shown.true)),
    )

pub places-preserved : goal.places-preserved
places-preserved g c = (
  ap is_some (last-more c.places.yielded c.in-Some.end) ∙ sym c.if-not-has_begun.false,
  rw (segments-same c.args.alone c.places.yielded c.in-Some.end (sym c.is_shown.ensures ∙ c.if-is_shown.false)) c.places.invariant.1,
)
