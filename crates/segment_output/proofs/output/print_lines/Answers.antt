-- The segment that ends at the place is one more, if it is shown and one begins before it.
use Rattle.std.proofs.Common.{◌≡◌, ℕ, Bool, true, false, List, Option, ◌∷◌, [], ◌++◌, sym, ap, refl, rules, append-nil, ◌∙◌}
use Rattle.std.specs.Option.{option_map}
use Rattle.std.proofs.lemmas.Bool.{true≢false}
use Rattle.segment_output.specs.Output.{look_of, ended, line_at, segments}
use Rattle.segment_output.specs.declared.marks.Mark.{Mark}
use Rattle.segment_output.proofs.Gathered.{count-more, gathered-all, gathered-none, gathered-one, gathered-same}
use Rattle.segment_output.proofs.Segments.{begun, begun-at, begun-not, has-begun, last, last-more, segments-more, segments-same}
use Rattle.segment_output.proofs.output.print_lines.Goals as goal

-- the place of the last boundary
last-is : (has_begun : Bool) (boundaries : List (ℕ × Mark)) (end : ℕ × Mark) → has_begun ≡ true
    → begun has_begun end.0 ≡ option_map (λ boundary. boundary.0) (last (boundaries ++ end ∷ []))
last-is has_begun boundaries end is =
    begun-at has_begun end.0 is ∙ ap (λ (found : Option (ℕ × Mark)). option_map (λ boundary. boundary.0) found) (sym (last-more boundaries end))

never : (P : Type 0) (has_begun : Bool) → has_begun ≡ true → has_begun ≡ false → P
never P has_begun is not = absurd (true≢false (sym is ∙ not))

pub places-init : goal.places-init
places-init g c =
    (begun-not false _ refl, rw c.in_ok-lines.ensures.items (gathered-none (g.O.Write.contents c.args.out.now)), refl, c.stretch_after-stretch.ensures, λ _. refl)

pub places-preserved-then-not-is_shown : goal.places-preserved-then-not-is_shown
places-preserved-then-not-is_shown g c =
    let end : ℕ × Mark = (c.in-Some.end, c.in-Some.mark) in
    let same = segments-same c.args.alone c.places.yielded end (sym c.is_shown.ensures ∙ c.if-not-is_shown.true) in (
      last-is true c.places.yielded end refl,
      rw same c.places.invariant.1,
      rw same c.places.invariant.2,
      c.places.invariant.3,
      never _ true refl,
    )

pub places-preserved-in_ok-count : goal.places-preserved-in_ok-count
places-preserved-in_ok-count g c =
    let found = c.places.yielded in
    let end : ℕ × Mark = (c.in-Some.end, c.in-Some.mark) in
    let is = has-begun c.places.has_begun c.places.start c.places.invariant.4 (c.push_short.ensures.begun c.if-push_short.true) in
    let more =
    segments-more c.args.alone found end (sym c.is_shown.ensures ∙ c.if-not-is_shown.false)
    ∙ ap (λ (start : Option ℕ). segments c.args.alone found ++ ended start end) (sym c.places.invariant.0 ∙ begun-at c.places.has_begun c.places.start is) in (
      last-is c.places.has_begun found end is,
      gathered-one (line_at (look_of c.args.part) c.args.part.before c.args.part.bytes.now) (segments c.args.alone found) _ _ _ _ _ _ _ more c.places.invariant.1
          (gathered-same _ _ _ (c.push_short.ensures.short (look_of c.args.part) c.args.part.before c.in-Some.mark c.places.invariant.3 c.if-push_short.true)),
      count-more (segments c.args.alone found) _ _ _ _ more c.places.invariant.2 (search rules),
      c.places.invariant.3,
      never _ c.places.has_begun is,
    )

pub places-preserved-in_ok-push_long : goal.places-preserved-in_ok-push_long
places-preserved-in_ok-push_long g c =
    let found = c.places.yielded in
    let end : ℕ × Mark = (c.in-Some.end, c.in-Some.mark) in
    let is = c.if-has_begun.true in
    let more =
    segments-more c.args.alone found end (sym c.is_shown.ensures ∙ c.if-not-is_shown.false)
    ∙ ap (λ (start : Option ℕ). segments c.args.alone found ++ ended start end) (sym c.places.invariant.0 ∙ begun-at c.places.has_begun c.places.start is) in (
      last-is c.places.has_begun found end is,
      gathered-one (line_at (look_of c.args.part) c.args.part.before c.args.part.bytes.now) (segments c.args.alone found) _ _ _ _ _ _ _ more c.places.invariant.1
          (rw (← c.push_short.ensures.long c.if-push_short.false) c.in_ok-push_long.ensures.lines),
      count-more (segments c.args.alone found) _ _ _ _ more c.places.invariant.2 (search rules),
      c.in_ok-push_long.ensures.stretch,
      never _ c.places.has_begun is,
    )

pub places-preserved : goal.places-preserved
places-preserved g c =
    let found = c.places.yielded in
    let end : ℕ × Mark = (c.in-Some.end, c.in-Some.mark) in
    let same : segments c.args.alone (found ++ end ∷ []) ≡ segments c.args.alone found =
    segments-more c.args.alone found end (sym c.is_shown.ensures ∙ c.if-not-is_shown.false)
    ∙ ap (λ (start : Option ℕ). segments c.args.alone found ++ ended start end) (sym c.places.invariant.0 ∙ begun-not c.places.has_begun c.places.start c.if-has_begun.false)
    ∙ append-nil (segments c.args.alone found) in (
      last-is true found end refl,
      rw (same, c.push_short.ensures.long c.if-push_short.false) c.places.invariant.1,
      rw same c.places.invariant.2,
      c.places.invariant.3,
      never _ true refl,
    )

pub returns : goal.returns
returns g c = (
  c.places.yielded,
  (c.places.places, c.places.yielded_by, c.in_default.ensures.steps),
  c.places.invariant.2,
  gathered-all c.places.lines.items _ (g.O.Write.contents c.args.out.now) (g.O.Write.contents c.places.out) (g.O.Write.contents c.flush.new.self) c.places.invariant.1 (search rules),
)
