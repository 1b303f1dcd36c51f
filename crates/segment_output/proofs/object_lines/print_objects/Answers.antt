-- The segment that ends at the place is one more, if it is shown and one begins before it.
use Rattle.std.proofs.Common.{◌≡◌, ℕ, Bool, true, false, List, Option, ◌∷◌, [], ◌++◌, sym, ap, refl, rules, ◌∙◌}
use Rattle.std.specs.Option.{option_map}
use Rattle.segment_output.specs.Output.{look_of, ended, line_at, segments}
use Rattle.segment_output.specs.declared.marks.Mark.{Mark}
use Rattle.segment_output.proofs.Gathered.{count-more, gathered-all, gathered-none, gathered-one, gathered-same}
use Rattle.segment_output.proofs.Segments.{begun, begun-at, begun-not, last, last-more, segments-first, segments-more, segments-same}
use Rattle.segment_output.proofs.object_lines.print_objects.Goals as goal

-- the place of the last boundary
last-is : (has_begun : Bool) (boundaries : List (ℕ × Mark)) (end : ℕ × Mark) → has_begun ≡ true
    → begun has_begun end.0 ≡ option_map (λ boundary. boundary.0) (last (boundaries ++ end ∷ []))
last-is has_begun boundaries end is =
    begun-at has_begun end.0 is ∙ ap (λ (found : Option (ℕ × Mark)). option_map (λ boundary. boundary.0) found) (sym (last-more boundaries end))

pub places-init : goal.places-init
places-init g c = (begun-not false _ refl, rw c.in_ok-try_new.ensures (gathered-none (g.O.Write.contents c.args.out.now)), refl, (refl, refl))

pub places-preserved-then-not-has_begun : goal.places-preserved-then-not-has_begun
places-preserved-then-not-has_begun g c =
    let end : ℕ × Mark = (c.in-Some.end, c.in-Some.mark) in
    let same = segments-first c.args.alone c.places.yielded end (sym c.places.invariant.0 ∙ begun-not c.places.has_begun c.places.start c.if-not-has_begun.true) in
    (last-is true c.places.yielded end refl, rw same c.places.invariant.1, rw same c.places.invariant.2, c.places.invariant.3)

pub places-preserved-in_ok-put_other : goal.places-preserved-in_ok-put_other
places-preserved-in_ok-put_other g c =
    let found = c.places.yielded in
    let end : ℕ × Mark = (c.in-Some.end, c.in-Some.mark) in
    let is = c.if-not-has_begun.false in
    let more =
    segments-more c.args.alone found end (sym c.is_shown.ensures ∙ c.if-is_shown.true)
    ∙ ap (λ (start : Option ℕ). segments c.args.alone found ++ ended start end) (sym c.places.invariant.0 ∙ begun-at c.places.has_begun c.places.start is) in (
      last-is c.places.has_begun found end is,
      gathered-one (line_at (look_of c.args.part) c.args.part.before c.args.part.bytes.now) (segments c.args.alone found) _ _ _ _ _ _ _ more c.places.invariant.1
          (rw (← c.put_short.ensures.not c.if-not-put_short.true) c.in_ok-put_other.ensures.lines),
      count-more (segments c.args.alone found) _ _ _ _ more c.places.invariant.2 (search rules),
      c.in_ok-put_other.ensures.stretch,
    )

pub places-preserved-else-not-put_short : goal.places-preserved-else-not-put_short
places-preserved-else-not-put_short g c =
    let found = c.places.yielded in
    let end : ℕ × Mark = (c.in-Some.end, c.in-Some.mark) in
    let is = c.if-not-has_begun.false in
    let more =
    segments-more c.args.alone found end (sym c.is_shown.ensures ∙ c.if-is_shown.true)
    ∙ ap (λ (start : Option ℕ). segments c.args.alone found ++ ended start end) (sym c.places.invariant.0 ∙ begun-at c.places.has_begun c.places.start is) in (
      last-is c.places.has_begun found end is,
      gathered-one (line_at (look_of c.args.part) c.args.part.before c.args.part.bytes.now) (segments c.args.alone found) _ _ _ _ _ _ _ more c.places.invariant.1
          (gathered-same _ _ _ (c.put_short.ensures.added c.if-not-put_short.false)),
      count-more (segments c.args.alone found) _ _ _ _ more c.places.invariant.2 (search rules),
      c.places.invariant.3,
    )

pub places-preserved : goal.places-preserved
places-preserved g c =
    let end : ℕ × Mark = (c.in-Some.end, c.in-Some.mark) in
    let same = segments-same c.args.alone c.places.yielded end (sym c.is_shown.ensures ∙ c.if-is_shown.false) in
    (last-is c.places.has_begun c.places.yielded end c.if-not-has_begun.false, rw same c.places.invariant.1, rw same c.places.invariant.2, c.places.invariant.3)

pub returns : goal.returns
returns g c = (
  c.places.yielded,
  (c.places.places, c.places.yielded_by, c.in_default.ensures.steps),
  c.places.invariant.2,
  gathered-all c.places.objects.page _ (g.O.Write.contents c.args.out.now) (g.O.Write.contents c.places.out) (g.O.Write.contents c.flush.new.self) c.places.invariant.1 (search rules),
)
