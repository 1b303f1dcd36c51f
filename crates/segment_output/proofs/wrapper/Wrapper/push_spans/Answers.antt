-- One line more is shown.
use Rattle.std.proofs.Common.{refl}
use Rattle.seg_wrap.specs.declared.wrap.wrapping.Span.{Span}
use Rattle.segment_output.specs.Paragraphs.{line_at}
use Rattle.segment_output.specs.Wrapped.{shown_line}
use Rattle.segment_output.specs.Wrapper.{wrapping_of}
use Rattle.segment_output.proofs.GivenParagraphs.{shown-more, with-hyphen, without-hyphen}
use Rattle.segment_output.proofs.wrapper.Wrapper.push_spans.Goals.{else-span+in_ok-push_shown, then-span+in_ok-push_hyphenated}
use Rattle.segment_output.proofs.wrapper.Wrapper.push_spans.Goals as goal

pub spans-preserved : goal.spans-preserved
spans-preserved c = elim c.if-span.branch [
  | then-span+in_ok-push_hyphenated w ↦
      rw w.gathered-is
      (shown-more (λ (span : Span). shown_line (wrapping_of c.args.self.now) (line_at c.args.text.now span)) c.args.spans.now c.spans.span-index _ _ _ _ c.spans-test.true
      c.spans.invariant (w.in_ok-push_hyphenated.ensures (line_at c.args.text.now _) (with-hyphen _ _ w.if-span.true) refl refl))
  | else-span+in_ok-push_shown w ↦
      rw w.gathered-is
      (shown-more (λ (span : Span). shown_line (wrapping_of c.args.self.now) (line_at c.args.text.now span)) c.args.spans.now c.spans.span-index _ _ _ _ c.spans-test.true
      c.spans.invariant (w.in_ok-push_shown.ensures (line_at c.args.text.now _) (without-hyphen _ _ w.if-span.false) refl refl))
]
