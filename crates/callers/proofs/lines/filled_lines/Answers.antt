use Rattle.std.proofs.Common.{sym, ap, ◌∙◌}
use Rattle.callers.specs.LineEnds.{line_ends}
use Rattle.icu_segmenter.specs.Boundaries.{boundary}
use Rattle.icu_segmenter.specs.Lines.{lines_left}
use Rattle.callers.proofs.Filled.{last-line, line-ended, line-going, no-line}
use Rattle.callers.proofs.lines.filled_lines.Goals.{then-ends_there+in_ok-push, else-ends_there, then-begin-reached+in_ok-push-2, else-begin-reached}
use Rattle.callers.proofs.lines.filled_lines.Goals as goal

pub loop-place-preserved : goal.loop-place-preserved
loop-place-preserved c = elim c.if-ends_there.branch [
  | then-ends_there+in_ok-push w ↦ rw (w.ends-is, w.begin-is, c.is_mandatory-must.ensures, w.in_ok-push.ensures.items)
      (line-ended c.args.width c.loop-place.begin c.loop-place.reached c.loop-place.must (boundary c.in-Some.place c.next.new.self.boundaries.status) _ (lines_left c.next.new.self) _ _ c.in-Some.ensures.steps.1 c.loop-place.invariant (sym c.ends_there.ensures ∙ w.if-ends_there.true))
  | else-ends_there w ↦ rw (w.ends-is, w.begin-is, c.is_mandatory-must.ensures)
      (line-going c.args.width c.loop-place.begin c.loop-place.reached c.loop-place.must (boundary c.in-Some.place c.next.new.self.boundaries.status) _ (lines_left c.next.new.self) _ _ c.in-Some.ensures.steps.1 c.loop-place.invariant (sym c.ends_there.ensures ∙ w.if-ends_there.false))
]

pub returns : goal.returns
returns c = elim c.if-begin-reached.branch [
  | then-begin-reached+in_ok-push-2 w ↦ rw (w.ends-is, w.in_ok-push-2.ensures.items)
      (last-line c.args.width c.loop-place.begin c.loop-place.reached c.loop-place.must _ (lines_left c.segment_str-breaks.result) c.loop-place.ends.items c.in_default.ensures.steps.1.0 c.loop-place.invariant w.if-begin-reached.true
      ∙ ap (line_ends c.args.width) c.segment_str-breaks.ensures.boundaries)
  | else-begin-reached w ↦ rw (w.ends-is)
      (no-line c.args.width c.loop-place.begin c.loop-place.reached c.loop-place.must _ (lines_left c.segment_str-breaks.result) c.loop-place.ends.items c.in_default.ensures.steps.1.0 c.loop-place.invariant w.if-begin-reached.false
      ∙ ap (line_ends c.args.width) c.segment_str-breaks.ensures.boundaries)
]
